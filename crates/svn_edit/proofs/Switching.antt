-- The last call among the others: what it returns and leaves, and how many pools are live.
use Rattle.std.proofs.Common.{◌≡◌, ℕ, ◌+◌, Bool, true, false, cond, List, [], ◌∷◌, refl, sym, ◌∙◌, ap, subst}
use Rattle.std.specs.Prelude.{Some, None, Result}
use Rattle.std.specs.List.{list_any}
use Rattle.std.specs.FinMap as map_of
use Rattle.svn_types.specs.Names.{Path}
use Rattle.svn_editor.specs.declared.call.Call.{Call}
use Rattle.svn_editor.specs.declared.call.Call.TheVariants.{CloseEdit}
use Rattle.svn_editor.specs.declared.fault.EditFault.{EditFault}
use Rattle.svn_editor.specs.declared.fault.EditFault.TheVariants.{TooDeep}
use Rattle.svn_editor.specs.Calls.{is_last}
use Rattle.svn_editor.specs.Order.{order_fault}
use Rattle.svn_editor.specs.declared.mode.Mode.{Mode}
use Rattle.svn_editor.specs.declared.mode.Mode.TheVariants.{Update, SwitchTo}
use Rattle.svn_model.specs.declared.base_node.BaseNode.{BaseNode}
use Rattle.svn_model.specs.Nodes.{WorkingCopy, get_in}
use Rattle.svn_model.specs.Effects.{is_settled_deep, settled, settle_fault, effect, edit_fault}
use Rattle.svn_edit.specs.declared.edit.Edit.{Edit}
use Rattle.svn_edit.specs.declared.pending.Pending.{Pending}
use Rattle.svn_edit.specs.Applying.{open_count, live_count, Applied, IsNext, OneIsLeft, StandsAfter}
use Rattle.svn_edit.proofs.OpenCounts.{none_open}

pub not_update : (root : Path) → SwitchTo root ≡ Update → ⊥
not_update root h = cc

none_deep : (nodes : List (Path × BaseNode)) → list_any (is_settled_deep Update) nodes ≡ false
none_deep [] = refl
none_deep (n ∷ nodes) = none_deep nodes

-- the end of an update isn't refused
pub update_ends : (nodes : List (Path × BaseNode)) → settle_fault Update nodes ≡ None
update_ends nodes = ap (λ b. cond b (Some TooDeep) None) (none_deep nodes)

pub end_applied : (checksum : List ℕ → List ℕ) (mode : Mode) (edit : Pending) (calls : List Call) (d : Call)
    (nodes nodes2 : List (Path × BaseNode)) (r : Result (Unit {0}) EditFault) → d ≡ CloseEdit → IsNext edit calls d
    → Applied (settle_fault mode nodes) (λ p. settled mode edit.target p (get_in nodes p)) nodes r nodes2
    → Applied (edit_fault checksum mode calls d nodes) (effect mode calls d (get_in nodes)) nodes r nodes2
end_applied checksum mode edit calls d nodes nodes2 r is next h =
    subst (λ (y : Call). Applied (edit_fault checksum mode calls y nodes) (effect mode calls y (get_in nodes)) nodes r nodes2) (sym is)
    (subst (λ n. Applied (settle_fault mode nodes) (λ p. settled mode n p (get_in nodes p)) nodes r nodes2) next.holds.target h)

-- nothing is open then
pub end_left : (edit : Pending) (calls : List Call) (d : Call) → d ≡ CloseEdit → IsNext edit calls d → OneIsLeft edit
end_left edit calls d is next = next.holds.batons.count ∙ ap (λ n. n + 1)
    (none_open calls (ap (order_fault calls) (sym is) ∙ next.in_order))

-- how many pools are live
pub live_is : (mode : Mode) (w0 : WorkingCopy) (edit : Edit) (nodes : List (Path × BaseNode)) (calls : List Call)
    → StandsAfter mode w0 edit nodes calls → map_of.len edit.pending.pools.live ≡ live_count calls
live_is mode w0 edit nodes calls s = by (list_any is_last calls) refl
  where
    by : (b : Bool) → list_any is_last calls ≡ b → map_of.len edit.pending.pools.live ≡ cond b 1 (open_count calls + 1)
    by true h = s.left h
    by false h = (s.going h).batons.count
