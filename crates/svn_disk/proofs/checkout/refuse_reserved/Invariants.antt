use Rattle.std.proofs.Common.{◌≡◌}
use Rattle.std.specs.List.{list_any}
use Rattle.svn_disk.specs.Places.{is_reserved}
use Rattle.svn_disk.proofs.checkout.refuse_reserved.Given as goal

abbrev pub invariant-loop-path : goal.invariant-loop-path
invariant-loop-path l = list_any (λ entry. is_reserved entry.0) l.path-iterator ≡ list_any (λ entry. is_reserved entry.0) l.copy
