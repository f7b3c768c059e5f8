use Rattle.std.proofs.Common.{◌≡◌, length}
use Rattle.svn_answers.specs.LiveUrls.{from_slash}
use Rattle.svn_answers.proofs.live_url.path_of.Given as goal

-- what is left has the same path, after the slashes so far
abbrev pub invariant-bytes : goal.invariant-bytes
invariant-bytes l = from_slash l.slashes l.rest ≡ from_slash 2 l.fn.url

abbrev pub decreases-bytes : goal.decreases-bytes
decreases-bytes l = length l.rest
