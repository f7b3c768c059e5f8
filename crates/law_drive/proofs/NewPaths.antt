-- A new path is below one that is touched or new.
use Rattle.std.proofs.Common.{◌≡◌, ℕ, true, ◌||◌, not, refl, sym, ◌∙◌, ap, true≢false}
use Rattle.std.specs.Prelude.{Option, Some, None, is_some}
use Rattle.std.specs.List.{list_any}
use Rattle.std.proofs.lemmas.Bool.{and_parts, or_right}
use Rattle.svn_types.specs.Names.{Path}
use Rattle.svn_types.specs.Paths.{child}
use Rattle.svn_types.proofs.NameLemmas.{Name}
use Rattle.svn_repo.specs.Readings.{kind_of}
use Rattle.svn_model.specs.Follow.{DriveInput, is_kept, target_node}
use Rattle.svn_model.specs.Steps.{is_touched, is_new}
use Rattle.law_drive.specs.Laws.{new_paths_have_parents}
use Rattle.law_drive.proofs.Classes.{Served, entered_below}
use Rattle.law_drive.proofs.Courses.{is_entry_of, entered_entry}
use Rattle.law_drive.proofs.ReportDrives.{served}

new_below : (d : DriveInput) → Served d → (p : Path) (name : Name) → is_new d (child p name) ≡ true → (is_touched d p || is_new d p) ≡ true
new_below d s p name m =
    by (target_node d (child p name)) refl (and_parts (not (is_kept d (child p name))) (is_some (target_node d (child p name))) m).1
  where
    by : (o : Option ℕ) → target_node d (child p name) ≡ o → is_some o ≡ true → (is_touched d p || is_new d p) ≡ true
    by None e k = absurd (true≢false (sym k))
    by (Some n) e k =
        let entry =
        entered_entry d (child p name) n (kind_of d.history n) e refl
        (or_right (is_touched d (child p name)) (is_new d (child p name)) m) in
        (entered_below d s p name (λ z. true≢false (sym entry ∙ ap (list_any (is_entry_of (kind_of d.history n))) z))).entered

pub new_have_parents : new_paths_have_parents
new_have_parents d history report checkable target = new_below d (served d history report checkable target)
