-- What is told of a folder whose path is gone in the target.
use Rattle.std.proofs.Common.{◌≡◌, ◌∙◌, ℕ, List, [], refl, sym, ap, subst, inl, inr, true, false, Option, Some, None}
use Rattle.std.specs.Prelude.{◌⊎◌, ◌≢◌, MatchOption}
use Rattle.svn_types.specs.Names.{Path}
use Rattle.svn_repo.specs.History.{History}
use Rattle.svn_model.specs.declared.base_node.BaseNode.{BaseNode}
use Rattle.svn_model.specs.declared.drive_fault.DriveFault.{DriveFault}
use Rattle.svn_model.specs.declared.drive_fault.DriveFault.TheVariants as drives
use Rattle.svn_model.specs.Checks.{target_fault}
use Rattle.svn_model.specs.Nodes.{get_in, node_revision}
use Rattle.svn_answers.specs.declared.topic.Topic.{Topic}
use Rattle.svn_answers.specs.declared.topic.Topic.TheVariants.{Report, Update, Calls, Nodes}
use Rattle.svn_answers.specs.declared.topic.TopicFault.{TopicFault}
use Rattle.svn_answers.specs.declared.topic.TopicFault.TheVariants.{Drive, Memory, Write}
use Rattle.std.proofs.lemmas.Bool.{false≢true}
use Rattle.svn_answers.specs.Gone.{is_gone}
use Rattle.svn_answers.specs.Topics.{IsUndriven, bad_target, too_many, IsNodesFault, IsTopicText, IsTopicFault, IsToldText, IsToldFault}
use Rattle.svn_answers.specs.Topics.{fault_to, deleted_by, deletion_text, input_to}

module _ (h : History) (nodes : List (Path × BaseNode)) where
  undriven_by : (rev : Option ℕ) → IsUndriven h nodes rev drives.NoRoot → target_fault (input_to h nodes rev) ≡ Some drives.NoRoot
  undriven_by rev (bad_target is) = is
  undriven_by rev (too_many is many) = absurd (let none : ⊥ = cc in none)

  no_nodes : (rev : Option ℕ) → IsNodesFault h nodes rev (Drive drives.NoRoot) → target_fault (input_to h nodes rev) ≡ Some drives.NoRoot
  no_nodes rev (inl undriven) = undriven_by rev undriven
  no_nodes rev (inr refused) = let is = refused.fault_is in absurd (let none : ⊥ = cc in none)

  -- where no node is at the folder's path the target is the fault
  pub gone_is : (topic : Topic) → IsTopicFault h nodes topic (Drive drives.NoRoot) → fault_to h nodes topic ≡ Some drives.NoRoot
  gone_is Report is = absurd (let none : ⊥ = cc in none)
  gone_is (Update rev) undriven = undriven_by rev undriven
  gone_is (Calls rev) undriven = undriven_by rev undriven
  gone_is (Nodes rev) fault = no_nodes rev fault

  -- an update that is made deletes no folder
  pub told_of : (entry : Option (List ℕ)) (topic : Topic) (text : List ℕ) → fault_to h nodes topic ≡ None → IsTopicText h nodes topic text
      → IsToldText h nodes entry topic text
  told_of entry topic text there told =
      subst (λ (f : Option DriveFault). MatchOption (deleted_by entry f) (IsTopicText h nodes topic text) (λ name. text ≡ deletion_text h (node_revision (get_in nodes [])) name topic))
      (sym there) told

  -- the deletion is told
  pub told_deleted : (name : List ℕ) (topic : Topic) (base : ℕ) → fault_to h nodes topic ≡ Some drives.NoRoot → base ≡ node_revision (get_in nodes [])
      → IsToldText h nodes (Some name) topic (deletion_text h base name topic)
  told_deleted name topic base gone is =
      subst (λ (f : Option DriveFault). MatchOption (deleted_by (Some name) f) (IsTopicText h nodes topic (deletion_text h base name topic)) (λ n. deletion_text h base name topic ≡ deletion_text h (node_revision (get_in nodes [])) n topic))
      (sym gone) (ap (λ (b : ℕ). deletion_text h b name topic) is)

  -- why it isn't
  memory_of : (topic : Topic) → IsTopicFault h nodes topic Memory
  memory_of Report = refl
  memory_of (Update rev) = tt
  memory_of (Calls rev) = tt
  memory_of (Nodes rev) = tt

  -- by the test
  pub gone_from : (e : TopicFault) → is_gone e ≡ true → e ≡ Drive drives.NoRoot
  gone_from (Drive drives.NoRoot) is = refl
  gone_from (Drive drives.NoSuchTarget) is = absurd (false≢true is)
  gone_from (Drive drives.Memory) is = absurd (false≢true is)
  gone_from (Drive (drives.Editor fault)) is = absurd (false≢true is)
  gone_from (Drive drives.Full) is = absurd (false≢true is)
  gone_from (Drive drives.OtherRoot) is = absurd (false≢true is)
  gone_from Write is = absurd (false≢true is)
  gone_from Memory is = absurd (false≢true is)

  pub not_unwritten : (e : TopicFault) → e ≡ Drive drives.NoRoot → e ≢ Write
  not_unwritten e is w = let bad : Drive drives.NoRoot ≡ Write = sym is ∙ w in absurd (let none : ⊥ = cc in none)

  pub not_gone : (entry : Option (List ℕ)) (topic : Topic) (e : TopicFault) → is_gone e ≡ false → IsTopicFault h nodes topic e
      → IsToldFault h nodes entry topic e
  not_gone entry topic e not why = (why, λ is. absurd (false≢true (sym not ∙ ap is_gone is)))

  pub no_entry : (entry : Option (List ℕ)) (topic : Topic) (e : TopicFault) → entry ≡ None → IsTopicFault h nodes topic e
      → IsToldFault h nodes entry topic e
  no_entry entry topic e none why = (why, λ is. none)

  no_memory : (entry : Option (List ℕ)) → Memory ≡ Drive drives.NoRoot → entry ≡ None
  no_memory entry is = absurd (let none : ⊥ = cc in none)

  pub undeleted : (entry : Option (List ℕ)) (topic : Topic) (e : TopicFault) → e ≡ Memory → IsToldFault h nodes entry topic e
  undeleted entry topic e is = subst (IsToldFault h nodes entry topic) (sym is) (memory_of topic, no_memory entry)
