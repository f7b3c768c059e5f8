-- What the parts of an audit say together.
use Rattle.std.proofs.Common.{◌≡◌, ℕ, List, [], sym, subst}
use Rattle.std.specs.Prelude.{Some, Ok}
use Rattle.svn_types.specs.Names.{Path}
use Rattle.svn_repo.specs.History.{History, new_history}
use Rattle.svn_model.specs.declared.base_node.BaseNode.{BaseNode}
use Rattle.svn_model.specs.Nodes.{WorkingCopy, get_in}
use Rattle.svn_dump.specs.declared.sections.Limits.{Limits}
use Rattle.svn_dump.specs.declared.sections.Texts.{Texts}
use Rattle.svn_history.specs.Loading.{LoadsDump}
use Rattle.svn_wcdb.specs.declared.depth.Takes.{Takes}
use Rattle.svn_wcdb.specs.Bases.{Base, base_tree_in}
use Rattle.svn_wcdb.specs.Sparse.{LeftOut, left_out_in}
use Rattle.svn_audit.specs.declared.reason.Untrue.{Untrue}
use Rattle.svn_audit.specs.Sparse.{Lackable, IsTrueBut, untrue_but}
use Rattle.svn_disk_audit.specs.Pristine.{Store, AreKeptAs}
use Rattle.svn_disk_audit.specs.Audits.{IsCopyOf, IsAudit, IsVerdict}
use Rattle.svn_disk_audit.specs.Sparse.{lackable}

same_copy : (copy kept : List (Path × BaseNode)) → ((p : Path) → get_in copy p ≡ get_in kept p) → get_in copy ≡ get_in kept
same_copy copy kept same i p = same p i

pub is_copy_of : (takes : Takes) (texts : Texts) (store here : Store) (database : List ℕ) (below : Path) (copy : List (Path × BaseNode)) (base : Base)
    (kept : List (Path × BaseNode)) → here ≡ store → base_tree_in takes below database ≡ Ok base → AreKeptAs texts here base.nodes kept
    → ((p : Path) → get_in copy p ≡ get_in kept p) → IsCopyOf takes texts store database below copy
is_copy_of takes texts store here database below copy base kept looked reads pristine nodes = record {
  base = base;
  reads = reads;
  kept = kept;
  pristine = subst (λ (s : Store). AreKeptAs texts s base.nodes kept) looked pristine;
  nodes = nodes;
}

-- as of the copy's own nodes, so of those that were kept
pub is_audit : (takes : Takes) (texts : Texts) (store : Store) (h : History) (database : List ℕ) (below : Path) (copy : List (Path × BaseNode))
    (untrue : List Untrue) → IsCopyOf takes texts store database below copy
    → untrue ≡ untrue_but (lackable (left_out_in takes below database)) h (get_in copy) copy
    → (untrue ≡ [] → IsTrueBut (lackable (left_out_in takes below database)) h (get_in copy))
    → (IsTrueBut (lackable (left_out_in takes below database)) h (get_in copy) → untrue ≡ [])
    → IsAudit takes texts store h database below copy untrue
is_audit takes texts store h database below copy untrue is all sound complete =
    let same : get_in copy ≡ get_in is.kept = same_copy copy is.kept is.nodes in
    let may : Lackable = lackable (left_out_in takes below database) in
    record {
      base = is.base;
      reads = is.reads;
      kept = is.kept;
      pristine = is.pristine;
      nodes = is.nodes;
      all = all;
      none_is_true = λ none. subst (λ (w : WorkingCopy). IsTrueBut may h w) same (sound none);
      true_has_none = λ holds. complete (subst (λ (w : WorkingCopy). IsTrueBut may h w) (sym same) holds);
    }

pub is_verdict : (takes : Takes) (texts : Texts) (limits : Limits) (dump : List ℕ) (store : Store) (database : List ℕ) (below : Path) (h : History)
    (copy : List (Path × BaseNode)) (untrue : List Untrue)
    → LoadsDump limits texts (Some dump) new_history h → IsAudit takes texts store h database below copy untrue
    → IsVerdict takes texts limits dump store database below untrue
is_verdict takes texts limits dump store database below h copy untrue loads a = record {
  history = h;
  loads = loads;
  base = a.base;
  reads = a.reads;
  kept = a.kept;
  pristine = a.pristine;
  none_is_true = a.none_is_true;
  true_has_none = a.true_has_none;
}

-- what was found by what a copy is seen to leave out is found by what it leaves out
pub found_by : (seen left_out : LeftOut) (h : History) (copy : List (Path × BaseNode)) (untrue : List Untrue) → seen ≡ left_out
    → untrue ≡ untrue_but (lackable seen) h (get_in copy) copy
    → (untrue ≡ [] → IsTrueBut (lackable seen) h (get_in copy)) → (IsTrueBut (lackable seen) h (get_in copy) → untrue ≡ [])
    → (untrue ≡ untrue_but (lackable left_out) h (get_in copy) copy) × (untrue ≡ [] → IsTrueBut (lackable left_out) h (get_in copy))
    × (IsTrueBut (lackable left_out) h (get_in copy) → untrue ≡ [])
found_by seen left_out h copy untrue same all sound complete = (
  subst (λ (l : LeftOut). untrue ≡ untrue_but (lackable l) h (get_in copy) copy) same all,
  λ none. subst (λ (l : LeftOut). IsTrueBut (lackable l) h (get_in copy)) same (sound none),
  λ holds. complete (subst (λ (l : LeftOut). IsTrueBut (lackable l) h (get_in copy)) (sym same) holds),
)
