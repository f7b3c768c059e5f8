-- Where the calls of an update lead, and what is printed of that.
use Rattle.std.proofs.Common.{false, List, refl, sym, subst, Option, None, Some}
use Rattle.std.specs.Prelude.{MatchOption}
use Rattle.svn_types.specs.Names.{Path}
use Rattle.svn_repo.specs.History.{History}
use Rattle.svn_repo.specs.Readings.{IsHistory}
use Rattle.svn_model.specs.declared.base_node.BaseNode.{BaseNode}
use Rattle.svn_model.specs.Nodes.{get_in, InPathOrder, IsTrueOf, IsWorkingCopy}
use Rattle.law_drive.specs.Laws.{the_calls_are_a_drive}
use Rattle.law_update.specs.Laws.{crawl_says_what_stands, drive_composes}
use Rattle.svn_audit.specs.Sparse.{WholeCopies}
use Rattle.svn_answers.specs.declared.topic.Topic.TheVariants.{Nodes}
use Rattle.svn_answers.specs.Laws as laws
use Rattle.svn_answers.specs.Topics.{AreUpdated, calls_to, input_to, deleted, LeadsToTarget}

pub leads_to_target : crawl_says_what_stands → the_calls_are_a_drive → drive_composes → (h : History) (nodes : List (Path × BaseNode))
    → IsHistory h → InPathOrder nodes → IsWorkingCopy (get_in nodes) → LeadsToTarget h nodes
leads_to_target says are_a_drive composes h nodes history in_order shape true_of rev there p =
    let said = says h nodes (record { history = history; in_order = in_order; shape = shape; true_of = true_of }) in
    let d = input_to h nodes rev in
    (composes d (get_in nodes) false (calls_to h nodes rev)
    (record {
      history = history;
      shape = shape;
      true_of = true_of;
      report = said.report;
      checkable = said.checkable;
      describes = said.describes;
      has_target = there;
    })
    (are_a_drive d false history said.report said.checkable there)).ends p

mapped : {T : Type 0} (o : Option T) {P R : Type 0} {Q S : T → Type 0} → (P → R) → ((x : T) → Q x → S x) → MatchOption o P Q → MatchOption o R S
mapped None of_none of_some m = of_none m
mapped (Some x) of_none of_some m = of_some x m

-- (a whole copy may lack nothing)
pub nodes_are_of_the_target : WholeCopies → laws.nodes_are_of_the_target
nodes_are_of_the_target lack_nothing texts store database below compared rev found text audit told =
    mapped (deleted compared.history found.audited.copy found.entry (Nodes rev))
    (λ (updated : AreUpdated compared.history found.audited.copy rev text).
    let true_of : IsTrueOf compared.history (get_in found.audited.copy) =
    subst (IsTrueOf compared.history) (λ i p. sym (audit.nodes p) i)
    ((lack_nothing compared.history (get_in audit.kept)).0 (audit.none_is_true (told.allowed refl))) in
    record { target = updated.updated; at = updated.target true_of; in_order = updated.in_order; lines = updated.lines })
    (λ name is. is) told.answer
