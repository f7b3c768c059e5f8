use Rattle.std.proofs.Common.{◌≡◌, ◌&&◌, length}
use Rattle.svn_dump.specs.declared.header_name.HeaderName.{HeaderName}
use Rattle.svn_dump.specs.Headers.{header_value, values_of, are_headers}
use Rattle.svn_dump.specs.HeaderNames.{name_of}
use Rattle.svn_dump.specs.GivenHeaders.{all_given, given_at}
use Rattle.svn_dump.proofs.headers.Headers.of.Given as goal

abbrev pub decreases-lines : goal.decreases-lines
decreases-lines l = length l.rest

-- with the lines that are left, the lines so far give what the block gives
abbrev pub invariant-lines : goal.invariant-lines
invariant-lines l =
    ((name : HeaderName) → all_given (given_at l.given name) (values_of (name_of name) l.rest) ≡ header_value l.block (name_of name))
    × ((l.well_formed && are_headers l.rest) ≡ are_headers l.block)
