-- The path of what is open under a token.
use Rattle.std.proofs.Common.{◌≡◌, ℕ, true, false, List, sym, ap, ◌∙◌}
use Rattle.std.specs.Prelude.{Bool, Option, Some, None, is_some, option_map, if◌then◌else◌}
use Rattle.std.specs.List.{list_any}
use Rattle.svn_types.specs.Names.{Path}
use Rattle.svn_editor.specs.declared.call.Call.{Call}
use Rattle.svn_editor.specs.declared.mode.Mode.{Mode}
use Rattle.svn_editor.specs.Calls.{is_last, path_of}
use Rattle.svn_model.specs.declared.base_node.BaseNode.{BaseNode}
use Rattle.svn_model.specs.Nodes.{WorkingCopy}
use Rattle.svn_edit.specs.declared.baton.Baton.{Baton}
use Rattle.svn_edit.specs.declared.pending.Pending.{Pending}
use Rattle.svn_edit.specs.Applying.{batons_of, path_open}
use Rattle.svn_edit.specs.Carrying.{CarriedOut}

module _ (mode : Mode) (w0 : WorkingCopy) (edit : Pending) (nodes : List (Path × BaseNode)) (calls : List Call)
    (stands : CarriedOut mode w0 edit nodes calls) (going : list_any is_last calls ≡ false) (t : ℕ) where
  by_test : (b : Bool) → is_some (batons_of edit t) ≡ b → (if b then Some (path_of calls t) else None) ≡ path_open calls t
  by_test b is = ap (λ (x : Bool). if x then Some (path_of calls t) else None) (sym is ∙ (stands.going going).batons.opened t)

  pub open_path_is : (o : Option Baton) → batons_of edit t ≡ o → option_map (λ (b : Baton). b.path) o ≡ path_open calls t
  open_path_is None is = by_test false (ap is_some is)
  open_path_is (Some b) is =
      ap (λ (p : Path). Some p) ((stands.going going).batons.each t b is).path ∙ by_test true (ap is_some is)
