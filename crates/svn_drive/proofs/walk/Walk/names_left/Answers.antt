use Rattle.std.proofs.Common.{◌≡◌, length, sym, ◌∙◌, ap, subst}
use Rattle.svn_types.specs.Names.{Path}
use Rattle.svn_drive.specs.declared.child_names.NamesLeft.{NamesLeft}
use Rattle.svn_drive.specs.Parts.{AreDeeper, by_name, entries_in}
use Rattle.svn_drive.specs.Walking.{request_of}
use Rattle.svn_drive.proofs.NamesLeft.{all_left, left_at_first}
use Rattle.svn_drive.proofs.Parts.{deeper}
use Rattle.svn_drive.proofs.walk.Walk.names_left.Goals as goal

pub of-reported-requires : goal.of-reported-requires
of-reported-requires c =
    subst (λ (q : Path). AreDeeper (length q) (entries_in c.args.place.now.below)) (sym c.components.ensures.names)
    (deeper _ c.args.place.now.here.path _ c.requires.below)

pub returns : goal.returns
returns c =
    let d = request_of c.args.self.now in
    let left : NamesLeft = record { source = c.of-source.result; target = c.of-target.result; reported = c.of-reported.result } in
    let source = c.of-source.ensures.all ∙ c.entries_at-old.ensures in
    let target = c.of-target.ensures.all ∙ c.entries_at-new.ensures in
    let reported : c.of-reported.result ≡ by_name (length c.args.place.now.here.path) (entries_in c.args.place.now.below) =
    c.of-reported.ensures ∙ ap (λ (q : Path). by_name (length q) (entries_in c.args.place.now.below)) c.components.ensures.names in
    record {
      all = all_left d c.args.place.now c.requires left source target reported;
      under = left_at_first d c.args.place.now c.requires left source target reported c.of-source.ensures.ordered c.of-target.ensures.ordered;
    }
