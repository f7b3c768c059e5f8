-- Why a node isn't opened.
use Rattle.std.proofs.Common.{◌≡◌, ℕ, Bool, true, false, cond, not, List, refl}
use Rattle.std.specs.Prelude.{Option, Some, None, nat_eq}
use Rattle.std.specs.Option.{option_or}
use Rattle.svn_types.specs.declared.kind.Kind.{Kind}
use Rattle.svn_types.specs.Names.{Path}
use Rattle.svn_editor.specs.declared.fault.EditFault.{EditFault}
use Rattle.svn_editor.specs.declared.fault.EditFault.TheVariants.{NoEntry, WrongKind, WrongRevision}
use Rattle.svn_editor.specs.declared.mode.Mode.{Mode}
use Rattle.svn_editor.specs.Steps.{Open, Step}
use Rattle.svn_model.specs.Nodes.{WorkingCopy, is_present, node_path, node_revision}
use Rattle.svn_model.specs.Effects.{step_fault, moved_path, has_kind}
use Rattle.svn_nodes.specs.NodeTests.{open_fault_of, deep_fault}

-- why a node isn't opened
pub open_fault_is : (checksum : List ℕ → List ℕ) (mode : Mode) (earlier : List Step) (w : WorkingCopy) (p : Path) (kind : Kind) (base : ℕ)
    → option_or (open_fault_of kind (w p) base) (deep_fault (moved_path mode w p (node_path (w p)))) ≡ step_fault checksum mode earlier w p
    (Open kind base)
open_fault_is checksum mode earlier w p kind base = by (not (is_present (w p))) (not (has_kind kind (w p)))
    (not (nat_eq (node_revision (w p)) base)) (deep_fault (moved_path mode w p (node_path (w p))))
  where
    by : (a b c : Bool) (o : Option EditFault)
        → option_or (cond a (Some NoEntry) (cond b (Some WrongKind) (cond c (Some WrongRevision) None))) o ≡ cond a (Some NoEntry)
        (cond b (Some WrongKind) (cond c (Some WrongRevision) o))
    by true b c o = refl
    by false true c o = refl
    by false false true o = refl
    by false false false o = refl
