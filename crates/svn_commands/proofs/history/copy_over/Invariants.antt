use Rattle.std.proofs.Common.{◌≡◌, take}
use Rattle.std.specs.Prelude.{IfSome}
use Rattle.std.specs.Option.{option_copied}
use Rattle.svn_commands.specs.Segments.{copy_over}
use Rattle.svn_commands.proofs.history.copy_over.Given as goal

abbrev pub invariant-loop-copy : goal.invariant-loop-copy
invariant-loop-copy l = record {
  last : option_copied l.last ≡ copy_over (take l.copy-index l.copies) l.rev l.path;
  here : IfSome l.last (λ copy. copy.now.rev ≡ l.rev);
}
