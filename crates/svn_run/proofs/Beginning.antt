-- Why no run leads to a target: the fault by the node of the copy's root is the one by its report.
use Rattle.std.proofs.Common.{◌≡◌, ℕ, [], Bool, true, false, true≢false, refl, sym, ◌∙◌}
use Rattle.std.specs.Prelude.{Option, Some, None, is_some, option_map, if◌then◌else◌}
use Rattle.std.specs.Option.{option_or}
use Rattle.svn_types.specs.Names.{Path}
use Rattle.svn_repo.specs.History.{look}
use Rattle.svn_editor.specs.declared.mode.Mode.{Mode}
use Rattle.svn_editor.specs.declared.mode.Mode.TheVariants.{Update, SwitchTo}
use Rattle.svn_model.specs.declared.drive_fault.DriveFault.{DriveFault}
use Rattle.svn_model.specs.Checks.{target_fault}
use Rattle.svn_model.specs.Crawl.{crawl}
use Rattle.svn_model.specs.Follow.{root_path}
use Rattle.svn_model.specs.Sources.{reported, source, is_hidden, governing_revision}
use Rattle.svn_model.specs.Nodes.{get_in, node_path, node_revision}
use Rattle.law_copy.proofs.OneNode.{dir_present}
use Rattle.law_update.specs.Laws.{IsTrueCopy}
use Rattle.svn_drive.specs.Targets.{fault_between}
use Rattle.svn_run.specs.Beginning.{fault_at, root_at, switched_to}
use Rattle.svn_run.specs.RunLaws.{RunLaws}
use Rattle.svn_run.specs.declared.outcome.RunFault.{RunFault}
use Rattle.svn_run.specs.declared.outcome.RunFault.TheVariants.{Capacity}
use Rattle.svn_run.specs.UpdateTheorem.{Asked, input, run_fault_of, is_capacity, capacity_fault, fault_in_turn, fault_in_threads}

shown : (hidden : Bool) (there : Option ℕ) → is_some (if hidden then None else there) ≡ true → (if hidden then None else there) ≡ there
shown true there h = absurd (true≢false (sym h))
shown false there h = refl

module _ (laws : RunLaws) (a : Asked) (true_copy : IsTrueCopy a.history a.copy) where
  -- what the client has at its root, by what the copy has there
  root_source : source a.history (reported (crawl a.copy) []) ≡ look a.history (node_revision (get_in a.copy []))
      (node_path (get_in a.copy []))
  root_source =
      let at = (laws.reports a.history a.copy true_copy).describes [] in
      let here = dir_present (get_in a.copy []) true_copy.shape.root in
      shown (is_hidden (reported (crawl a.copy) []))
      (look a.history (governing_revision (reported (crawl a.copy) [])) (reported (crawl a.copy) []).repos_path) (sym at.present ∙ here)
      ∙ (λ i. look a.history (sym (at.revision here) i) (sym (at.repos_path here) i))

  -- where the root is in the target, by the mode
  root_leads : (mode : Mode) (kept : Path) → root_path mode kept ≡ root_at (switched_to mode) kept
  root_leads Update kept = refl
  root_leads (SwitchTo to) kept = refl

  same_fault : fault_in_turn a ≡ fault_at a.history a.request.target (switched_to a.request.mode) (get_in a.copy [])
  same_fault =
      let root = get_in a.copy [] in
      let path = root_leads a.request.mode (node_path root) in
      λ i. option_map run_fault_of
      (fault_between a.history a.request.target (root_source i) (look a.history a.request.target (path i)))

  -- the fault that a test by the target and the path of a switch finds
  pub found : (target : ℕ) (to : Option Path) → a.request.target ≡ target → switched_to a.request.mode ≡ to
      → fault_at a.history target to (get_in a.copy []) ≡ fault_in_turn a
  found target to same_target same_path =
      (λ i. fault_at a.history (sym same_target i) (sym same_path i) (get_in a.copy [])) ∙ sym same_fault

none_mapped : (fault : Option DriveFault) → option_map run_fault_of fault ≡ None → fault ≡ None
none_mapped None h = refl
none_mapped (Some f) h = absurd cc

-- where there is none, the target can be driven to
pub has_target : (a : Asked) → fault_in_turn a ≡ None → target_fault (input a) ≡ None
has_target a h = none_mapped (target_fault (input a)) h

-- ---- and on two threads

neither : (f g : Option RunFault) → option_or f g ≡ None → (f ≡ None) × (g ≡ None)
neither None g h = (refl, h)
neither (Some f) g h = absurd cc

pub begins_in_turn : (a : Asked) (capacity : ℕ) → fault_in_threads a capacity ≡ None → fault_in_turn a ≡ None
begins_in_turn a capacity h = (neither (fault_in_turn a) (capacity_fault capacity) h).0

pub has_capacity : (a : Asked) (capacity : ℕ) → fault_in_threads a capacity ≡ None → is_capacity capacity ≡ true
has_capacity a capacity h = by (is_capacity capacity) (neither (fault_in_turn a) (capacity_fault capacity) h).1
  where
    by : (b : Bool) → (if b then None else Some Capacity) ≡ None → b ≡ true
    by true h = refl
    by false h = absurd cc
