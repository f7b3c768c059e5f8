-- Bytes are at most one dump: the revisions that are read of them are the same, however they are read.
use Rattle.std.proofs.Common.{◌≡◌, ℕ, List, [], ◌∷◌, ◌++◌, Option, Some, None, Ok, Err, refl, subst, sym, ap, ◌∙◌}
use Rattle.std.proofs.lemmas.Option.{same_Some}
use Rattle.svn_dump.specs.declared.record.NodeRecord.{NodeRecord}
use Rattle.svn_dump.specs.declared.record.Record.{Record}
use Rattle.svn_dump.specs.declared.record.Record.TheVariants.{Other, Node}
use Rattle.svn_dump.specs.declared.sections.Limits.{Limits}
use Rattle.svn_dump.specs.declared.sections.Texts.{Texts}
use Rattle.svn_dump.specs.Sections.{Read}
use Rattle.svn_dump.specs.Records.{record_at}
use Rattle.svn_history.specs.Loading.{Revisions, ReadsNodes, no_record, one_node, one_other, beginning, NodesAt, RevisionsAt, last_revision, one_more, IsDump, empty_dump, some_revisions}

-- ---- what is read at a place

from_read : Option Record × List ℕ → Read (Option Record) → Option Record × List ℕ
from_read other (Ok read) = read
from_read other (Err e) = other

one_read : (x y : Option Record) (r s : List ℕ) (read : Read (Option Record)) → read ≡ Ok (x, r) → read ≡ Ok (y, s) → (x ≡ y) × (r ≡ s)
unfolding from_read
one_read x y r s read e f =
    let same : Ok (x, r) ≡ Ok (y, s) = sym e ∙ f in
    let both : (x, r) ≡ (y, s) = ap (from_read (x, r)) same in
    (ap (λ (t : Option Record × List ℕ). t.0) both, ap (λ (t : Option Record × List ℕ). t.1) both)

one_beginning : (x y : Option ℕ) → beginning x ≡ beginning y → x ≡ y
one_beginning None None e = refl
one_beginning None (Some m) e = absurd (cc)
one_beginning (Some n) None e = absurd (cc)
one_beginning (Some n) (Some m) e = let same : n ≡ m = cc in ap Some same

no_node : (x : Option ℕ) (n : NodeRecord) → beginning x ≡ Some (Node n) → ⊥
no_node None n e = cc
no_node (Some rev) n e = cc

no_other : (x : Option ℕ) → beginning x ≡ Some Other → ⊥
no_other None e = cc
no_other (Some rev) e = cc

node_is_no_other : (n : NodeRecord) → Some (Node n) ≡ Some Other → ⊥
node_is_no_other n e = cc

module _ (limits : Limits) (texts : Texts) where
  -- ---- records, the first one first

  data Forward : List ℕ → List NodeRecord → List ℕ → Type 0 where
    stop : {bytes : List ℕ} → Forward bytes [] bytes
    node_next : {bytes rest : List ℕ} {nodes : List NodeRecord} (after : List ℕ) (node : NodeRecord)
        → record_at limits texts bytes ≡ Ok (Some (Node node), after) → Forward after nodes rest → Forward bytes (node ∷ nodes) rest
    other_next : {bytes rest : List ℕ} {nodes : List NodeRecord} (after : List ℕ) → record_at limits texts bytes ≡ Ok (Some Other, after)
        → Forward after nodes rest → Forward bytes nodes rest

  node_last : (bytes mid rest : List ℕ) (nodes : List NodeRecord) (node : NodeRecord) → Forward bytes nodes mid
      → record_at limits texts mid ≡ Ok (Some (Node node), rest) → Forward bytes (nodes ++ node ∷ []) rest
  node_last bytes mid rest nodes node stop e = node_next rest node e stop
  node_last bytes mid rest nodes node (node_next {nodes = more} after n f reads) e =
      node_next after n f (node_last after mid rest more node reads e)
  node_last bytes mid rest nodes node (other_next after f reads) e = other_next after f (node_last after mid rest nodes node reads e)

  other_last : (bytes mid rest : List ℕ) (nodes : List NodeRecord) → Forward bytes nodes mid
      → record_at limits texts mid ≡ Ok (Some Other, rest) → Forward bytes nodes rest
  other_last bytes mid rest nodes stop e = other_next rest e stop
  other_last bytes mid rest nodes (node_next {nodes = more} after n f reads) e =
      node_next after n f (other_last after mid rest more reads e)
  other_last bytes mid rest nodes (other_next after f reads) e = other_next after f (other_last after mid rest nodes reads e)

  forward : (bytes rest : List ℕ) (nodes : List NodeRecord) → ReadsNodes limits texts bytes nodes rest → Forward bytes nodes rest
  forward bytes rest nodes no_record = stop
  forward bytes rest nodes (one_node {nodes = before} mid node reads e) =
      node_last bytes mid rest before node (forward bytes mid before reads) e
  forward bytes rest nodes (one_other mid reads e) = other_last bytes mid rest nodes (forward bytes mid nodes reads) e

  record OneEnd (xs ys : List NodeRecord) (x y : Option ℕ) (r s : List ℕ) : Type 0 where
    pub nodes : xs ≡ ys
    pub next : x ≡ y
    pub rest : r ≡ s

  more_nodes : (m n : NodeRecord) (xs ys : List NodeRecord) (x y : Option ℕ) (r s : List ℕ) → m ≡ n → OneEnd xs ys x y r s
      → OneEnd (m ∷ xs) (n ∷ ys) x y r s
  more_nodes m n xs ys x y r s e end = record { nodes = λ i. e i ∷ end.nodes i; next = end.next; rest = end.rest }

  one_end : (bytes m n r s : List ℕ) (xs ys : List NodeRecord) (x y : Option ℕ) → Forward bytes xs m
      → record_at limits texts m ≡ Ok (beginning x, r) → Forward bytes ys n → record_at limits texts n ≡ Ok (beginning y, s)
      → OneEnd xs ys x y r s
  one_end bytes m n r s xs ys x y stop e stop f =
      let same = one_read (beginning x) (beginning y) r s (record_at limits texts bytes) e f in
      record { nodes = refl; next = one_beginning x y same.0; rest = same.1 }
  one_end bytes m n r s xs ys x y stop e (node_next after node g reads) f =
      absurd (no_node x node (one_read (beginning x) (Some (Node node)) r after (record_at limits texts bytes) e g).0)
  one_end bytes m n r s xs ys x y stop e (other_next after g reads) f =
      absurd (no_other x (one_read (beginning x) (Some Other) r after (record_at limits texts bytes) e g).0)
  one_end bytes m n r s xs ys x y (node_next after node g reads) e stop f =
      absurd (no_node y node (one_read (beginning y) (Some (Node node)) s after (record_at limits texts bytes) f g).0)
  one_end bytes m n r s xs ys x y (other_next after g reads) e stop f =
      absurd (no_other y (one_read (beginning y) (Some Other) s after (record_at limits texts bytes) f g).0)
  one_end bytes m n r s xs ys x y (node_next {nodes = us} after node g reads) e (node_next {nodes = vs} later other h others) f =
      let same = one_read (Some (Node node)) (Some (Node other)) after later (record_at limits texts bytes) g h in
      let nodes : Some (Node node) ≡ Some (Node other) = same.0 in
      let level : node ≡ other = cc in
      more_nodes node other us vs x y r s level
      (one_end after m n r s us vs x y reads e (subst (λ (z : List ℕ). Forward z vs n) (sym same.1) others) f)
  one_end bytes m n r s xs ys x y (node_next after node g reads) e (other_next later h others) f =
      absurd (node_is_no_other node (one_read (Some (Node node)) (Some Other) after later (record_at limits texts bytes) g h).0)
  one_end bytes m n r s xs ys x y (other_next after g reads) e (node_next later other h others) f =
      absurd (node_is_no_other other (one_read (Some (Node other)) (Some Other) later after (record_at limits texts bytes) h g).0)
  one_end bytes m n r s xs ys x y (other_next after g reads) e (other_next later h others) f =
      let same = one_read (Some Other) (Some Other) after later (record_at limits texts bytes) g h in
      one_end after m n r s xs ys x y reads e (subst (λ (z : List ℕ). Forward z ys n) (sym same.1) others) f

  nodes_once : (bytes r s : List ℕ) (xs ys : List NodeRecord) (x y : Option ℕ) → NodesAt limits texts bytes xs x r
      → NodesAt limits texts bytes ys y s → OneEnd xs ys x y r s
  nodes_once bytes r s xs ys x y h k =
      one_end bytes h.mid k.mid r s xs ys x y (forward bytes h.mid xs h.reads) h.next_is (forward bytes k.mid ys k.reads) k.next_is

  -- ---- revisions

  revisions_once : (rev : ℕ) (bytes : List ℕ) (rs ss : Revisions) → RevisionsAt limits texts rev bytes rs
      → RevisionsAt limits texts rev bytes ss → rs ≡ ss
  revisions_once rev bytes rs ss (last_revision nodes rest at) (last_revision others left there) =
      let one = nodes_once bytes rest left nodes others None None at there in ap (λ (l : List NodeRecord). (rev, l) ∷ []) one.nodes
  revisions_once rev bytes rs ss (last_revision nodes rest at) (one_more others next left there more) =
      let one = nodes_once bytes rest left nodes others None (Some next) at there in
      let bad : None ≡ Some next = one.next in absurd (cc)
  revisions_once rev bytes rs ss (one_more nodes next rest at more) (last_revision others left there) =
      let one = nodes_once bytes rest left nodes others (Some next) None at there in
      let bad : Some next ≡ None = one.next in absurd (cc)
  revisions_once rev bytes rs ss (one_more {revisions = us} nodes next rest at more) (one_more {revisions = vs} others later left there too) =
      let one = nodes_once bytes rest left nodes others (Some next) (Some later) at there in
      let level : next ≡ later = same_Some next later one.next in
      let moved : RevisionsAt limits texts next rest vs =
      subst (λ n. RevisionsAt limits texts n rest vs) (sym level)
      (subst (λ (z : List ℕ). RevisionsAt limits texts later z vs) (sym one.rest) too) in
      let tail = revisions_once next rest us vs more moved in
      λ i. (rev, one.nodes i) ∷ tail i

  pub dump_once : (bytes : List ℕ) (rs ss : Revisions) → IsDump limits texts bytes rs → IsDump limits texts bytes ss → rs ≡ ss
  dump_once bytes rs ss (empty_dump rest at) (empty_dump left there) = refl
  dump_once bytes rs ss (empty_dump rest at) (some_revisions first left there more) =
      let one = nodes_once bytes rest left [] [] None (Some first) at there in
      let bad : None ≡ Some first = one.next in absurd (cc)
  dump_once bytes rs ss (some_revisions first rest at more) (empty_dump left there) =
      let one = nodes_once bytes rest left [] [] (Some first) None at there in
      let bad : Some first ≡ None = one.next in absurd (cc)
  dump_once bytes rs ss (some_revisions first rest at more) (some_revisions other left there too) =
      let one = nodes_once bytes rest left [] [] (Some first) (Some other) at there in
      let level : first ≡ other = same_Some first other one.next in
      revisions_once first rest rs ss more
      (subst (λ n. RevisionsAt limits texts n rest ss) (sym level)
      (subst (λ (z : List ℕ). RevisionsAt limits texts other z ss) (sym one.rest) too))
