use Rattle.std.proofs.Common.{rules, ◌≡◌, ◌&&◌, true, sym, ◌∙◌, ap, inl}
use Rattle.std.specs.Prelude.{is_some}
use Rattle.svn_editor.specs.Calls.{number_eq}
use Rattle.svn_model.specs.Sources.{starts_empty}
use Rattle.svn_model.specs.Follow.{Followed}
use Rattle.svn_drive.specs.Walking.{IsQuiet, request_of}
use Rattle.svn_drive.proofs.Idle.{idle_child}
use Rattle.svn_drive.proofs.Parts.{nothing_in}
use Rattle.svn_drive.proofs.walk.Walk.is_same_child.Goals as goal

pub returns-else-starts_empty : goal.returns-else-starts_empty
returns-else-starts_empty c = λ t.
    let d = request_of c.args.self.now in
    let followed = sym c.requires.at.followed in
    let quiet : IsQuiet d c.args.place.now.here.path c.args.below.now.name.now =
    record {
      kept = ap (λ (f : Followed). f.is_kept) followed ∙ c.requires.kept;
      shown = ap (λ (f : Followed). starts_empty f.here.governing) followed ∙ sym c.if-starts_empty.ensures;
      unreported = nothing_in d.report.entries _ _ c.requires.below.reported (c.is_empty.ensures.0 (search rules));
    } in
    let old = c.copied-source.ensures ∙ c.requires.below.source in
    let new = c.copied-target.ensures ∙ c.requires.below.target in
    let same : (is_some c.copied-source.result && number_eq c.copied-source.result c.copied-target.result) ≡ true = search rules in
    inl
    (idle_child d c.args.place.now.here.path c.args.below.now.name.now c.args.place.now.source c.args.place.now.target quiet
    c.requires.at.source c.requires.at.target ((λ i. is_some (sym old i) && number_eq (sym old i) (sym new i)) ∙ same))
