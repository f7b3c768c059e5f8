-- What a path one name longer has: the look-up, the report, and what becomes of it.
use Rattle.std.proofs.Common.{◌≡◌, ℕ, [], ◌∷◌, refl, sym, ◌∙◌, ap}
use Rattle.std.specs.Prelude.{Option, Some, None, option_and_then}
use Rattle.svn_types.specs.Names.{Path}
use Rattle.svn_types.specs.Paths.{child}
use Rattle.svn_types.specs.Pairs.{value_of}
use Rattle.svn_types.proofs.NameLemmas.{Name}
pub use Rattle.svn_types.proofs.PathLemmas.{path_ind, parent-child, is_root-child}
use Rattle.svn_repo.specs.History.{History, NodeRow, node_at, child_in, walk, look}
use Rattle.svn_repo.specs.Readings.{row_or_empty, entries_of}
use Rattle.svn_repo.proofs.Walking.{look-append}
use Rattle.svn_report.specs.Reports.{ReportView}
use Rattle.svn_model.specs.Sources.{Reported, reported, reported_from, reported_root, reported_child}
use Rattle.svn_model.specs.Follow.{DriveInput, Followed, follow, follow_from, follow_root, follow_child}

-- the entry of a node, where there is a node
abbrev pub entry_below : History → Option ℕ → Name → Option ℕ
entry_below h None name = None
entry_below h (Some n) name = value_of (entries_of h n) name

child_in-entries : (o : Option NodeRow) (name : Name) → child_in o name ≡ value_of (row_or_empty o).entries name
child_in-entries None name = refl
child_in-entries (Some row) name = refl

pub look-child : (h : History) (r : ℕ) (p : Path) (name : Name) → look h r (child p name) ≡ entry_below h (look h r p) name
look-child h r p name = look-append h r p (name ∷ []) ∙ by (look h r p)
  where
    one_step : (o : Option ℕ) → option_and_then (λ m. walk (node_at h) m []) o ≡ o
    one_step None = refl
    one_step (Some m) = refl

    by : (o : Option ℕ) → option_and_then (λ m. walk (node_at h) m (name ∷ [])) o ≡ entry_below h o name
    by None = refl
    by (Some n) = one_step (child_in (node_at h n) name) ∙ child_in-entries (node_at h n) name

reported_from-child : (r : ReportView) (s : Reported) (p : Path) (name : Name)
    → reported_from r s (child p name) ≡ reported_child r (reported_from r s p) name
reported_from-child r s [] name = refl
reported_from-child r s (n ∷ p) name = reported_from-child r (reported_child r s n) p name

pub reported-child : (r : ReportView) (p : Path) (name : Name) → reported r (child p name) ≡ reported_child r (reported r p) name
reported-child r p name = reported_from-child r (reported_root r) p name

follow_from-child : (d : DriveInput) (f : Followed) (p : Path) (name : Name)
    → follow_from d f (child p name) ≡ follow_child d (follow_from d f p) name
follow_from-child d f [] name = refl
follow_from-child d f (n ∷ p) name = follow_from-child d (follow_child d f n) p name

pub follow-child : (d : DriveInput) (p : Path) (name : Name) → follow d (child p name) ≡ follow_child d (follow d p) name
follow-child d p name = follow_from-child d (follow_root d) p name

pub reported-path : (r : ReportView) (p : Path) → (reported r p).path ≡ p
reported-path r =
    path_ind (λ p. (reported r p).path ≡ p) refl
    (λ p name h. ap (λ (s : Reported). s.path) (reported-child r p name) ∙ ap (λ q. child q name) h)

pub follow-here : (d : DriveInput) (p : Path) → (follow d p).here ≡ reported d.report p
follow-here d = path_ind (λ p. (follow d p).here ≡ reported d.report p) refl
    (λ p name h. ap (λ (f : Followed). f.here) (follow-child d p name) ∙ ap (λ s. reported_child d.report s name) h
    ∙ sym (reported-child d.report p name))

pub parent_is_kept-child : (d : DriveInput) (p : Path) (name : Name) → (follow d (child p name)).parent_is_kept ≡ (follow d p).is_kept
parent_is_kept-child d p name = ap (λ (f : Followed). f.parent_is_kept) (follow-child d p name)
