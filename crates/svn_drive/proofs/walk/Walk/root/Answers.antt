use Rattle.std.proofs.Common.{◌≡◌, [], refl, sym, ◌∙◌, ap}
use denote.Ref.{Bor}
use Rattle.std.specs.Option.{option_copied}
use Rattle.svn_report.specs.Reports.{ReportView}
use Rattle.svn_model.specs.Sources.{Reported, reported_root}
use Rattle.svn_model.specs.Follow.{source_node, target_node}
use Rattle.svn_drive.specs.Checking.{seen_as}
use Rattle.svn_drive.specs.Parts.{entries_in}
use Rattle.svn_drive.specs.Walking.{request_of}
use Rattle.svn_drive.proofs.ChildPlaces.{root_followed}
use Rattle.svn_drive.proofs.Parts.{own_part}
use Rattle.svn_drive.proofs.walk.Walk.root.Goals as goal

pub with_touched-requires : goal.with_touched-requires
with_touched-requires c =
    let d = request_of c.args.self.now in
    let here = c.seen_root-here.result in
    let says : seen_as here ≡ reported_root d.report =
    c.seen_root-here.ensures.seen ∙ ap (λ (r : Bor ReportView). reported_root r.now) c.reading.ensures.report in
    let path : here.path ≡ [] = ap (λ (s : Reported). s.path) says in
    record {
      followed = root_followed d here says;
      start = c.seen_root-here.ensures.start;
      source = c.root_source.ensures ∙ ap (source_node d) (sym path);
      target = c.root_target.ensures ∙ ap (target_node d) (sym path);
      below =
          (own_part d.report.entries c.law.ensures [] (entries_in c.args.reported) c.requires here.path here.path
          (option_copied c.split_own.result.0) (entries_in c.split_own.result.1) path refl c.split_own.ensures.own
          c.split_own.ensures.others).1;
    }
