-- The verdict on a working copy, from bytes. What is at a path of it and below is a copy of its own: what the bytes of the database stand for there.
-- Where sparse copies are taken, it may lack what it leaves out; of a whole copy that is nothing.
--     IsCopyOf takes texts store database below copy      the copy is that of the database's bytes, its texts pristine
--     IsAudit takes texts store h database below copy untrue      the copy is that of the database's bytes, its texts pristine, and these paths of it are untrue of h
--     IsVerdict takes texts limits dump store database below untrue      no path is untrue exactly where that copy is true of the dump's history
--     IsAccepted takes accepts database below      this holds of what the bytes of the database stand for
--     IsFrom origin notes base      it is of this repository, and so much was passed over
--     IsAuditFault takes texts store database below fault      why the copy isn't audited, whose base tree was read unless the database is refused
use Rattle.std.specs.Prelude.{◌≡◌, ℕ, List, [], Some, Ok}
use Rattle.svn_types.specs.Names.{Path}
use Rattle.svn_repo.specs.History.{History, new_history}
use Rattle.svn_model.specs.declared.base_node.BaseNode.{BaseNode}
use Rattle.svn_model.specs.Nodes.{get_in}
use Rattle.svn_dump.specs.declared.sections.Limits.{Limits}
use Rattle.svn_dump.specs.declared.sections.Texts.{Texts}
use Rattle.svn_history.specs.Loading.{LoadsDump}
use Rattle.svn_model.specs.declared.wc_fault.WcFault.{WcFault}
use Rattle.svn_model.specs.Refusals.{nodes_fault}
use Rattle.svn_wc.specs.Building.{Refuses}
use Rattle.svn_wcdb.specs.declared.base_tree.Origin.{Origin}
use Rattle.svn_wcdb.specs.declared.depth.Takes.{Takes}
use Rattle.svn_wcdb.specs.declared.notes.Notes.{Notes}
use Rattle.svn_wcdb.specs.Bases.{Base, base_tree_in}
use Rattle.svn_wcdb.specs.Reading.{FailsAt}
use Rattle.svn_wcdb.specs.Sparse.{left_out_in}
use Rattle.svn_audit.specs.declared.reason.Untrue.{Untrue}
use Rattle.svn_audit.specs.Sparse.{IsTrueBut, untrue_but}
use Rattle.svn_disk_audit.specs.declared.fault.AuditFault.{AuditFault}
use Rattle.svn_disk_audit.specs.declared.fault.AuditFault.TheVariants.{Database, Examiner, Pristine, Copy, Memory}
use Rattle.svn_disk_audit.specs.Pristine.{Store, AreKeptAs, IsRefusedFile}
use Rattle.svn_disk_audit.specs.Sparse.{lackable}

pub record IsCopyOf (takes : Takes) (texts : Texts) (store : Store) (database : List ℕ) (below : Path) (copy : List (Path × BaseNode)) : Type 0 where
  pub base : Base
  -- it is what the bytes stand for at the path and below
  pub reads : base_tree_in takes below database ≡ Ok base
  -- its nodes, their texts as they are kept
  pub kept : List (Path × BaseNode)
  pub pristine : AreKeptAs texts store base.nodes kept
  pub nodes : (p : Path) → get_in copy p ≡ get_in kept p

pub record IsAudit (takes : Takes) (texts : Texts) (store : Store) (h : History) (database : List ℕ) (below : Path) (copy : List (Path × BaseNode))
    (untrue : List Untrue) : Type 0 where
  pub base : Base
  -- it is what the bytes stand for at the path and below
  pub reads : base_tree_in takes below database ≡ Ok base
  -- its nodes, their texts as they are kept
  pub kept : List (Path × BaseNode)
  pub pristine : AreKeptAs texts store base.nodes kept
  pub nodes : (p : Path) → get_in copy p ≡ get_in kept p
  -- all that is untrue of it, in path order
  pub all : untrue ≡ untrue_but (lackable (left_out_in takes below database)) h (get_in copy) copy
  pub none_is_true : untrue ≡ [] → IsTrueBut (lackable (left_out_in takes below database)) h (get_in kept)
  pub true_has_none : IsTrueBut (lackable (left_out_in takes below database)) h (get_in kept) → untrue ≡ []

pub record IsVerdict (takes : Takes) (texts : Texts) (limits : Limits) (dump : List ℕ) (store : Store) (database : List ℕ) (below : Path)
    (untrue : List Untrue) : Type 0 where
  -- the history that the bytes of the dump stand for, its texts as they are kept
  pub history : History
  pub loads : LoadsDump limits texts (Some dump) new_history history
  -- the copy that the bytes of the database stand for at the path and below, its texts as they are kept
  pub base : Base
  pub reads : base_tree_in takes below database ≡ Ok base
  pub kept : List (Path × BaseNode)
  pub pristine : AreKeptAs texts store base.nodes kept
  pub none_is_true : untrue ≡ [] → IsTrueBut (lackable (left_out_in takes below database)) history (get_in kept)
  pub true_has_none : IsTrueBut (lackable (left_out_in takes below database)) history (get_in kept) → untrue ≡ []

abbrev pub IsAccepted : Takes → (Base → Type 0) → List ℕ → Path → Type 0
IsAccepted takes accepts database below = (base : Base) × (base_tree_in takes below database ≡ Ok base) × accepts base

abbrev pub IsFrom : Origin → Notes → Base → Type 0
IsFrom origin notes base = (base.origin ≡ origin) × (base.notes ≡ notes)

-- this holds of the nodes of the database at the path and below
abbrev pub HasNodes : Takes → List ℕ → Path → (List (Path × BaseNode) → Type 0) → Type 0
HasNodes takes database below holds = (base : Base) × (base_tree_in takes below database ≡ Ok base) × holds base.nodes

-- all texts were kept, and the nodes are no copy
abbrev pub AreNoCopy : Texts → Store → WcFault → List (Path × BaseNode) → Type 0
AreNoCopy texts store fault nodes = (kept : List (Path × BaseNode)) × AreKeptAs texts store nodes kept × Refuses (nodes_fault kept) fault

abbrev pub IsAuditFault : {F : Type 0} → Takes → Texts → Store → List ℕ → Path → AuditFault F → Type 0
IsAuditFault takes texts store database below (Database refusal) = FailsAt {Y = Base} refusal.fault refusal.path (base_tree_in takes below database)
IsAuditFault takes texts store database below (Examiner fault) = HasNodes takes database below (λ nodes. Unit {0})
IsAuditFault takes texts store database below (Pristine refusal) = HasNodes takes database below (λ nodes. IsRefusedFile store nodes refusal)
IsAuditFault takes texts store database below (Copy fault) = HasNodes takes database below (AreNoCopy texts store fault)
IsAuditFault takes texts store database below Memory = Unit {0}
