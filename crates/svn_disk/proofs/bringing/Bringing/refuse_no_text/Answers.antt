use Rattle.std.proofs.Common.{refl, sym, ◌∙◌, true≢false}
use Rattle.svn_folder.specs.States.{seen}
use Rattle.svn_disk.specs.Crashes.{IsTextIn}
use Rattle.svn_disk.proofs.Copies.{kept_of_file}
use Rattle.svn_disk.proofs.bringing.Bringing.refuse_no_text.Goals as goal

pub returns-then-is_kept-clause-texts : goal.returns-then-is_kept-clause-texts
returns-then-is_kept-clause-texts g c =
    kept_of_file (λ s. IsTextIn c.args.self.now.admin.now.name (seen s)) (g.F.Folder.past c.args.folder.now) c.args.self.now.existing.now.copy c.args.entry.0.now
    c.args.entry.1.now c.in-Some.name.now c.in-Some.ensures (c.if-is_kept.ensures.text refl)

pub returns-then-is_kept-clause-coming : goal.returns-then-is_kept-clause-coming
returns-then-is_kept-clause-coming g c = λ noted. absurd (true≢false (sym noted ∙ c.if-is_kept.ensures.noted refl))
