use Rattle.std.proofs.Common.{[], ◌∷◌, ap, ◌∙◌, rules}
use Rattle.svn_types.specs.Paths.{is_within}
use Rattle.svn_types.proofs.PathLemmas.{is_within-longer}
use Rattle.svn_disk.proofs.Going.{keeps_more, stops_more, stops_there}
use Rattle.svn_disk.proofs.clearing.remove_files.Goals as goal

pub returns-in_err-entry_of-clause-steps : goal.returns-in_err-entry_of-clause-steps
returns-in_err-entry_of-clause-steps g c = λ n h. let stops = stops_there (c.loop-name.invariant.steps n h) in search rules

pub returns-in_err-remove_entry-clause-steps : goal.returns-in_err-remove_entry-clause-steps
returns-in_err-remove_entry-clause-steps g c = λ n h.
    let inside = ap (is_within (n ∷ [])) c.in_ok-entry_of.ensures ∙ is_within-longer (n ∷ []) c.args.path.now _ h in
    let stops = stops_more (c.loop-name.invariant.steps n h) (c.in_err-remove_entry.ensures.steps n inside).1 in search rules

pub loop-name-preserved : goal.loop-name-preserved
loop-name-preserved g c = record {
  steps = λ n h.
      keeps_more (c.loop-name.invariant.steps n h)
      (c.in_ok-remove_entry.ensures.steps n (ap (is_within (n ∷ [])) c.in_ok-entry_of.ensures ∙ is_within-longer (n ∷ []) c.args.path.now _ h)).0;
  left = λ n h l.
      c.in_ok-remove_entry.ensures.left n (ap (is_within (n ∷ [])) c.in_ok-entry_of.ensures ∙ is_within-longer (n ∷ []) c.args.path.now _ h)
      (c.loop-name.invariant.left n h l);
}
