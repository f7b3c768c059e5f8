-- A true copy that a report describes: what is in it is what the request's sources have there.
--     Setting d w      the request of a report that describes the true copy w, and can be served
use Rattle.std.proofs.Common.{◌≡◌, ℕ, true, refl, sym, ◌∙◌, ap, true≢false}
use Rattle.std.specs.Prelude.{Option, Some, None, is_some}
use Rattle.std.proofs.lemmas.Option.{same_Some}
use Rattle.svn_lists.proofs.Options.{some_value}
use Rattle.svn_types.specs.Names.{Path}
use Rattle.svn_types.specs.declared.kind.Kind.TheVariants.{File, Directory}
use Rattle.svn_repo.specs.History.{History, look}
use Rattle.svn_repo.specs.Readings.{kind_of}
use Rattle.svn_model.specs.Sources.{Reported, reported, source, governing_revision}
use Rattle.svn_model.specs.Follow.{DriveInput, is_kept, source_node, target_node}
use Rattle.svn_model.specs.declared.base_node.BaseNode.{BaseNode}
use Rattle.svn_model.specs.declared.base_node.BaseNode.TheVariants.{File as FileNode, Dir as DirNode, NotPresent}
use Rattle.svn_model.specs.Nodes.{WorkingCopy, IsWorkingCopy, is_present, is_dir, node_revision, node_path, IsTrueNode, IsTrueOf}
use Rattle.svn_model.specs.Describes.{Describes}
use Rattle.law_update.specs.Laws.{IsRequestOf}
use Rattle.svn_model.proofs.Children.{follow-here}
use Rattle.law_drive.proofs.Reporting.{shown_source}
use Rattle.law_drive.proofs.Classes.{Served, kept_directory}
use Rattle.law_drive.proofs.ReportDrives.{served}

-- a request that can be served, and the copy that its report describes
pub record Setting (d : DriveInput) (w : WorkingCopy) : Type 0 where
  pub served : Served d
  pub shape : IsWorkingCopy w
  pub true_of : IsTrueOf d.history w
  pub describes : Describes d.history d.report w

pub setting_of : (d : DriveInput) (w : WorkingCopy) → IsRequestOf d w → Setting d w
setting_of d w asked = record {
  served = served d asked.history asked.report asked.checkable asked.has_target;
  shape = asked.shape;
  true_of = asked.true_of;
  describes = asked.describes;
}

module _ (d : DriveInput) (w : WorkingCopy) (setting : Setting d w) where
  abbrev h : History
  h = d.history

  abbrev says : Path → Reported
  says p = reported d.report p

  -- where there is a source something is present
  pub is_source_present : (p : Path) (n : ℕ) → source_node d p ≡ Some n → is_present (w p) ≡ true
  is_source_present p n s = (setting.describes p).present ∙ sym (ap (λ x. is_some (source d.history x)) (follow-here d p)) ∙ ap is_some s

  -- what is at the source of a path is a node of the copy there
  pub source_from_copy : (p : Path) (node : Option BaseNode) → w p ≡ node → IsTrueNode h w p node → is_present node ≡ true
      → (m : ℕ) × (source_node d p ≡ Some m) × (is_dir node ≡ true → kind_of h m ≡ Directory)
  source_from_copy p None e tr k = absurd (true≢false (sym k))
  source_from_copy p (Some NotPresent) e tr k = absurd (true≢false (sym k))
  source_from_copy p (Some (FileNode r q x ps)) e tr k =
      let s = some_value (source h (says p)) (sym (sym (ap is_present e) ∙ (setting.describes p).present)) in
      (s.0, ap (source h) (follow-here d p) ∙ s.1, λ dir. absurd (true≢false (sym dir)))
  source_from_copy p (Some (DirNode r q c ps)) e tr k =
      let s = some_value (source h (says p)) (sym (sym (ap is_present e) ∙ (setting.describes p).present)) in
      (s.0, ap (source h) (follow-here d p) ∙ s.1, λ dir. ap (kind_of h) (same_Some s.0 tr.0 (sym (at_node s.0 s.1) ∙ tr.1)) ∙ tr.2.kind)
    where
      at_node : (m : ℕ) → source h (says p) ≡ Some m → look h r q ≡ Some m
      at_node m s =
          let there = (setting.describes p) in
          ap (λ x. look h x q) (ap node_revision (sym e) ∙ there.revision (ap is_present e))
          ∙ ap (look h (governing_revision (says p))) (ap node_path (sym e) ∙ there.repos_path (ap is_present e))
          ∙ (shown_source h (says p) m s).1

  -- the source of a present node is the node at its own repository path
  pub source_looked : (p : Path) → is_present (w p) ≡ true
      → (m : ℕ) × (source_node d p ≡ Some m) × (look h (node_revision (w p)) (node_path (w p)) ≡ Some m)
  source_looked p k =
      let s = some_value (source h (says p)) (sym (setting.describes p).present ∙ k) in (
        s.0,
        ap (source h) (follow-here d p) ∙ s.1,
        ap (λ x. look h x (node_path (w p))) ((setting.describes p).revision k)
            ∙ ap (look h (governing_revision (says p))) ((setting.describes p).repos_path k) ∙ (shown_source h (says p) s.0 s.1).1,
      )

  -- a kept path whose target is a directory is one in the copy
  pub kept_dir : (p : Path) (n : ℕ) → is_kept d p ≡ true → is_present (w p) ≡ true → target_node d p ≡ Some n → kind_of h n ≡ Directory
      → is_dir (w p) ≡ true
  kept_dir p n k present t dir = by (w p) refl (setting.true_of p)
    where
      m : (m : ℕ) × (source_node d p ≡ Some m) × (look h (node_revision (w p)) (node_path (w p)) ≡ Some m)
      m = source_looked p present

      by : (node : Option BaseNode) → w p ≡ node → IsTrueNode h w p node → is_dir node ≡ true
      by None e tr = absurd (true≢false (sym present ∙ ap is_present e))
      by (Some NotPresent) e tr = absurd (true≢false (sym present ∙ ap is_present e))
      by (Some (DirNode r q c ps)) e tr = refl
      by (Some (FileNode r q x ps)) e tr =
          let one = same_Some tr.0 m.0 (sym tr.1 ∙ sym (ap (λ o. look h (node_revision o) (node_path o)) e) ∙ m.2) in
          let two : File ≡ Directory = sym tr.2.kind ∙ ap (kind_of h) one ∙ sym (kept_directory d setting.served p m.0 n k m.1 t) ∙ dir in
          absurd (differ two)
        where
          differ : File ≡ Directory → ⊥
          differ z = cc
