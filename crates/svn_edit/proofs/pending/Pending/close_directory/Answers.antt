use Rattle.std.proofs.Common.{◌≡◌, Some, cond, sym, ap, subst, ◌∙◌, refl, rules}
use Rattle.std.specs.Prelude.{Result, Err, IfErr, filter_map}
use Rattle.svn_serials.specs.Serials.{get}
use Rattle.std.proofs.lemmas.Option.{same_Some}
use Rattle.std.proofs.lemmas.Map.Steps.{set_value_same}
use Rattle.svn_types.specs.Names.{Path}
use Rattle.svn_types.specs.Paths.{path_eq}
use Rattle.svn_editor.specs.declared.fault.EditFault.{EditFault}
use Rattle.svn_editor.specs.declared.fault.EditFault.TheVariants.{Memory}
use Rattle.svn_model.specs.Nodes.{get_in}
use Rattle.svn_model.specs.Effects.{change_in, closed_directory}
use Rattle.svn_edit.specs.declared.baton.Baton.{Baton}
use Rattle.svn_edit.specs.Applying.{Says}
use Rattle.law_copy.proofs.Lookups.{get_in-updated}
use Rattle.law_copy.proofs.PathParts.{none_changed}
use Rattle.svn_edit.proofs.pending.Pending.close_directory.Goals as goal
use Rattle.svn_edit.proofs.pending.Pending.close_directory.Goals.{in-Some-get_mut+in_ok-complete, in_default-get_mut}

pub returns-in_err-complete-clause-refused : goal.returns-in_err-complete-clause-refused
returns-in_err-complete-clause-refused c =
    let written = c.get_mut.follows.holds c.complete.new.node in
    let node = c.in_err-complete.ensures.refused.1 in
    let same = written.0 ∙ set_value_same _ _ _ (sym c.in-Some-get_mut.ensures.value ∙ ap Some (sym node)) in
    let refused : c.from_residual.result ≡ Err c.in_err-complete.field-0.0 = search rules in
    subst (λ (r : Result (Unit {0}) EditFault). IfErr r (λ e. (e ≡ Memory) × ((c.get_mut.follows.lender c.complete.new.node).entries
    ≡ c.args.copy.now.entries))) (sym refused) (c.in_err-complete.ensures.refused.0, same)

pub returns-clause-closed : goal.returns-clause-closed
returns-clause-closed c = λ b said there s.
    let old = c.args.self.now in
    let nodes = c.args.copy.now.entries in
    let same : c.in-Some.baton.now ≡ b = same_Some c.in-Some.baton.now b (c.in-Some.ensures.value
    ∙ ap (get old.batons) c.token.view_is ∙ there) in
    let at = c.as_rel_path.result.now in
    let closed = closed_directory (filter_map change_in said) in
    subst (λ (x : Baton). (p : Path) → get_in c.match-get_mut.copy.entries p ≡ cond (path_eq x.path p) (closed (get_in nodes x.path))
    (get_in nodes p)) same
    (subst (λ (q : Path). (p : Path) → get_in c.match-get_mut.copy.entries p ≡ cond (path_eq q p) (closed (get_in nodes q))
    (get_in nodes p)) c.as_rel_path.ensures
    (elim c.match-get_mut.branch [
      | in-Some-get_mut+in_ok-complete w ↦
          let written = c.get_mut.follows.holds w.complete.new.node in
          λ p. ap (λ n. get_in n.entries p) w.copy-is
          ∙ get_in-updated nodes _ at (Some w.complete.new.node) (written.3 (rw (← w.in-Some-get_mut.ensures.value) (search rules))).0 p
          ∙ ap (λ v. cond (path_eq at p) v (get_in nodes p))
          (w.in_ok-complete.ensures.closed said (subst (λ (x : Baton). Says x old.pools said) (sym same) s)
          ∙ ap closed w.in-Some-get_mut.ensures.value)
      | in_default-get_mut w ↦ λ p.
          ap (λ n. get_in n.entries p) (w.copy-is ∙ c.get_mut.follows.holds-at-none)
          ∙ none_changed (get_in nodes) at closed (search rules) refl p
    ]))
