use Rattle.std.proofs.Common.{[], ◌∷◌, ap, ◌∙◌, rules}
use Rattle.std.specs.Prelude.{None}
use Rattle.svn_types.specs.Paths.{is_within}
use Rattle.svn_types.proofs.PathLemmas.{is_within-same}
use Rattle.svn_folder.specs.declared.entry.Entry.TheVariants.{Directory}
use Rattle.svn_folder.specs.declared.step.Step.TheVariants.{Make}
use Rattle.svn_disk.specs.Places.{is_temporary, temporary_place}
use Rattle.svn_disk.proofs.Going.{keeps_more, stops_more, stops_there, one_each}
use Rattle.svn_disk.proofs.temporary.clear_temporary.Goals as goal

pub returns-in_err-make_directory_if_none : goal.returns-in_err-make_directory_if_none
returns-in_err-make_directory_if_none g c =
    let n = c.args.admin.now.name in
    let made = one_each (is_temporary n) (Make c.in_ok-temporary.temporary Directory None)
    (ap (is_within (temporary_place n)) c.in_ok-temporary.ensures ∙ is_within-same (temporary_place n)) in
    let stops = c.in_err-make_directory_if_none.ensures.does.1 (is_temporary n) made in search rules

pub returns-in_err-names : goal.returns-in_err-names
returns-in_err-names g c =
    let n = c.args.admin.now.name in
    let made = one_each (is_temporary n) (Make c.in_ok-temporary.temporary Directory None)
    (ap (is_within (temporary_place n)) c.in_ok-temporary.ensures ∙ is_within-same (temporary_place n)) in
    let stops = stops_there (c.in_ok-make_directory_if_none.ensures.does.0 (is_temporary n) made) in search rules

pub loop-name-init : goal.loop-name-init
loop-name-init g c =
    let n = c.args.admin.now.name in
    let made = one_each (is_temporary n) (Make c.in_ok-temporary.temporary Directory None)
    (ap (is_within (temporary_place n)) c.in_ok-temporary.ensures ∙ is_within-same (temporary_place n)) in
    c.in_ok-make_directory_if_none.ensures.does.0 (is_temporary n) made

pub returns-in_err-clear_name : goal.returns-in_err-clear_name
returns-in_err-clear_name g c = let stops = stops_more c.loop-name.invariant c.in_err-clear_name.ensures.1 in search rules

pub loop-name-preserved : goal.loop-name-preserved
loop-name-preserved g c = keeps_more c.loop-name.invariant c.in_ok-clear_name.ensures.0
