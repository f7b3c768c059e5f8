-- The nodes up to the next revision, one after another.
use Rattle.std.proofs.Common.{◌≡◌, ℕ, List, [], ◌∷◌, ◌++◌, Option, Some, None, Result, Ok, Err, refl, subst, sym, ap}
use Rattle.std.specs.Prelude.{MatchOption}
use Rattle.std.proofs.lemmas.List.Sums.{fold-append}
use Rattle.svn_repo.specs.Transactions.{OpenRevision}
use Rattle.svn_dump.specs.declared.fault.DumpFault.{DumpFault}
use Rattle.svn_dump.specs.declared.fault.DumpFault.TheVariants as dump
use Rattle.svn_dump.specs.declared.record.NodeRecord.{NodeRecord}
use Rattle.svn_dump.specs.declared.record.Record.{Record}
use Rattle.svn_dump.specs.declared.record.Record.TheVariants.{Other, Revision, Node}
use Rattle.svn_dump.specs.declared.reader.Reader.{Reader}
use Rattle.svn_dump.specs.declared.sections.Limits.{Limits}
use Rattle.svn_dump.specs.declared.sections.Texts.{Texts}
use Rattle.svn_dump.specs.Readers.{left_in, UnlessBroken}
use Rattle.svn_dump.specs.Reading.{Reads, Fails as DumpFails}
use Rattle.svn_dump.specs.Records.{record_at}
use Rattle.svn_history.specs.declared.fault.LoadFault.{LoadFault}
use Rattle.svn_history.specs.declared.fault.LoadFault.TheVariants as faults
use Rattle.svn_history.specs.Results.{Fails, of_dump}
use Rattle.svn_history.specs.Steps.{Draft, draft_of, Step, nothing, ◌>>◌, IsMade}
use Rattle.svn_history.specs.Loading.{ReadsNodes, no_record, one_node, one_other, NodesAt, beginning}
use Rattle.svn_history.specs.Parts.{IfKnown, Takes, RefusesRecord, node_changes, nodes_changes, LoadsNodes, NodesFault, RefusesNodes}
use Rattle.svn_history.specs.Parts.{bad_record, bad_node, outside, out_of_memory, read_fault}
use Rattle.svn_history.proofs.Places.{IfKnownAt}
use Rattle.svn_history.proofs.Stepping.{made_nothing, made_then}

-- these nodes were read, and their changes are made
pub record NodesSoFar (limits : Limits) (texts : Texts) (rev : Option ℕ) (left : Option (List ℕ)) (d : Draft) (now : Option (List ℕ))
    (made : Draft) : Type 0 where
  pub nodes : List NodeRecord
  pub bytes : IfKnown left now (λ bytes mid. ReadsNodes limits texts bytes nodes mid)
  pub changed : IsMade (nodes_changes texts rev nodes) d made

pub known_same : (left : Option (List ℕ)) (P : List ℕ → List ℕ → Type 0) → ((bytes : List ℕ) → P bytes bytes) → IfKnown left left P
known_same None P h = tt
known_same (Some bytes) P h = h bytes

pub at_start : (limits : Limits) (texts : Texts) (rev : Option ℕ) (left : Option (List ℕ)) (d : Draft)
    → NodesSoFar limits texts rev left d left d
at_start limits texts rev left d = record {
  nodes = [];
  bytes = known_same left (λ bytes mid. ReadsNodes limits texts bytes [] mid) (λ bytes. no_record);
  changed = made_nothing d;
}

-- of a reader and a draft that are the same
pub nodes_on : {R : Type 0} (remaining : R → Option (List ℕ)) (limits : Limits) (texts : Texts) (rev : Option ℕ) (left : Option (List ℕ))
    (d : Draft) (records records' : Reader R) (o o' : OpenRevision) → records' ≡ records → o' ≡ o
    → NodesSoFar limits texts rev left d (left_in remaining records) (draft_of o)
    → NodesSoFar limits texts rev left d (left_in remaining records') (draft_of o')
nodes_on {R} remaining limits texts rev left d records records' o o' same same' h =
    subst (λ (r : Reader R). NodesSoFar limits texts rev left d (left_in remaining r) (draft_of o')) (sym same)
    (subst (λ (t : OpenRevision). NodesSoFar limits texts rev left d (left_in remaining records) (draft_of t)) (sym same') h)

-- what is read next, where the bytes are known
known_next : (limits : Limits) (texts : Texts) (left now next : Option (List ℕ)) (what : Option Record) (P Q : List ℕ → List ℕ → Type 0)
    → IfKnown left now P → Reads (λ r. r) now next (Ok what) (record_at limits texts)
    → ((bytes mid rest : List ℕ) → P bytes mid → record_at limits texts mid ≡ Ok (what, rest) → Q bytes rest) → IfKnown left next Q
known_next limits texts None now next what P Q h r f = tt
known_next limits texts (Some bytes) None next what P Q h r f = absurd h
known_next limits texts (Some bytes) (Some mid) None what P Q h r f = r
known_next limits texts (Some bytes) (Some mid) (Some rest) what P Q h r f = f bytes mid rest h r

known_both : (left now : Option (List ℕ)) (P : List ℕ → List ℕ → Type 0) (A : List ℕ → Type 0) → IfKnown left now P
    → MatchOption now (Unit {0}) A → IfKnown left now (λ bytes mid. P bytes mid × A mid)
known_both None now P A h k = tt
known_both (Some bytes) None P A h k = absurd h
known_both (Some bytes) (Some mid) P A h k = (h, k)

nodes_push : (texts : Texts) (rev : Option ℕ) (nodes : List NodeRecord) (node : NodeRecord)
    → nodes_changes texts rev (nodes ++ node ∷ []) ≡ nodes_changes texts rev nodes >> node_changes texts rev node
nodes_push texts rev nodes node = fold-append (λ (before : Step) (n : NodeRecord). before >> node_changes texts rev n) nothing nodes (node ∷ [])

module _ (limits : Limits) (texts : Texts) (rev : Option ℕ) (left : Option (List ℕ)) (d : Draft) (now : Option (List ℕ)) (made : Draft)
    (h : NodesSoFar limits texts rev left d now made) (next : Option (List ℕ)) where
  pub one_more_node : (after : Draft) (node : NodeRecord) → Reads (λ r. r) now next (Ok (Some (Node node))) (record_at limits texts)
      → IsMade (node_changes texts rev node) made after → NodesSoFar limits texts rev left d next after
  one_more_node after node r changed = record {
    nodes = h.nodes ++ node ∷ [];
    bytes = known_next limits texts left now next (Some (Node node)) (λ bytes mid. ReadsNodes limits texts bytes h.nodes mid)
        (λ bytes rest. ReadsNodes limits texts bytes (h.nodes ++ node ∷ []) rest) h.bytes r
        (λ bytes mid rest p e. one_node mid node p e);
    changed = subst (λ (step : Step). IsMade step d after) (sym (nodes_push texts rev h.nodes node))
        (made_then (nodes_changes texts rev h.nodes) (node_changes texts rev node) d made after h.changed changed);
  }

  pub one_more_other : Reads (λ r. r) now next (Ok (Some Other)) (record_at limits texts) → NodesSoFar limits texts rev left d next made
  one_more_other r = record {
    nodes = h.nodes;
    bytes = known_next limits texts left now next (Some Other) (λ bytes mid. ReadsNodes limits texts bytes h.nodes mid)
        (λ bytes rest. ReadsNodes limits texts bytes h.nodes rest) h.bytes r (λ bytes mid rest p e. one_other mid p e);
    changed = h.changed;
  }

  module _ (at : Option ℕ → List ℕ → Type 0) where
    pub all_nodes : (rev' begins : Option ℕ) → Reads (λ r. r) now next (Ok (beginning begins)) (record_at limits texts)
        → IfKnownAt at rev now
        → LoadsNodes limits texts at (record { rev = rev; draft = d; left = left }) begins (record { rev = rev'; draft = made; left = next })
    all_nodes rev' begins r shown = record {
      nodes = h.nodes;
      bytes = known_next limits texts left now next (beginning begins) (λ bytes mid. ReadsNodes limits texts bytes h.nodes mid × at rev mid)
          (λ bytes rest. (read : NodesAt limits texts bytes h.nodes begins rest) × at rev read.mid)
          (known_both left now (λ bytes mid. ReadsNodes limits texts bytes h.nodes mid) (at rev) h.bytes shown) r
          (λ bytes mid rest p e. (record { mid = mid; reads = p.0; next_is = e }, p.1));
      made = h.changed;
    }

    pub no_record_more : (e : DumpFault) → Reads {X = Option Record} (λ r. r) now next (Err e) (record_at limits texts)
        → UnlessBroken {X = Option Record} (Err e) (IfKnownAt at rev now)
        → RefusesNodes limits texts at (record { rev = rev; draft = d; left = left }) (of_dump e)
    no_record_more e r shown = by left now next h.bytes r shown
      where
        why : (bytes mid : List ℕ) (f : DumpFault) → ReadsNodes limits texts bytes h.nodes mid → DumpFails f (record_at limits texts mid)
            → UnlessBroken {X = Option Record} (Err f) (at rev mid) → NodesFault limits texts at rev d bytes (of_dump f)
        why bytes mid (dump.Refused reason) p fails here = bad_record h.nodes mid made reason p h.changed fails refl here
        why bytes mid dump.Read p fails here = outside (read_fault refl)
        why bytes mid dump.Memory p fails here = outside (out_of_memory refl)

        by : (l n x : Option (List ℕ)) → IfKnown l n (λ bytes mid. ReadsNodes limits texts bytes h.nodes mid)
            → Reads {X = Option Record} (λ r. r) n x (Err e) (record_at limits texts)
            → UnlessBroken {X = Option Record} (Err e) (IfKnownAt at rev n)
            → MatchOption l (Unit {0}) (λ bytes. NodesFault limits texts at rev d bytes (of_dump e))
        by None n x p f here = tt
        by (Some bytes) None x p f here = absurd p
        by (Some bytes) (Some mid) None p f here = why bytes mid e p f here
        by (Some bytes) (Some mid) (Some rest) p f here = why bytes mid e p f here

    pub bad_node_next : (node : NodeRecord) (e : LoadFault) → Reads (λ r. r) now next (Ok (Some (Node node))) (record_at limits texts)
        → Fails e (node_changes texts rev node made) → IfKnownAt at rev now
        → RefusesNodes limits texts at (record { rev = rev; draft = d; left = left }) e
    bad_node_next node e r fails shown = by left now next h.bytes r shown
      where
        why : (bytes mid rest : List ℕ) (f : LoadFault) → ReadsNodes limits texts bytes h.nodes mid
            → record_at limits texts mid ≡ Ok (Some (Node node), rest) → Fails f (node_changes texts rev node made) → at rev mid
            → NodesFault limits texts at rev d bytes f
        why bytes mid rest faults.Memory p is f here = outside (out_of_memory refl)
        why bytes mid rest (faults.Dump fault) p is f here = bad_node h.nodes mid rest made node p h.changed is f here
        why bytes mid rest (faults.Commit fault) p is f here = bad_node h.nodes mid rest made node p h.changed is f here
        why bytes mid rest faults.NotRising p is f here = bad_node h.nodes mid rest made node p h.changed is f here
        why bytes mid rest faults.TooManyRevisions p is f here = bad_node h.nodes mid rest made node p h.changed is f here
        why bytes mid rest faults.NoRevision p is f here = bad_node h.nodes mid rest made node p h.changed is f here
        why bytes mid rest faults.NoKind p is f here = bad_node h.nodes mid rest made node p h.changed is f here
        why bytes mid rest (faults.Delta fault) p is f here = bad_node h.nodes mid rest made node p h.changed is f here

        by : (l n x : Option (List ℕ)) → IfKnown l n (λ bytes mid. ReadsNodes limits texts bytes h.nodes mid)
            → Reads (λ r. r) n x (Ok (Some (Node node))) (record_at limits texts) → IfKnownAt at rev n
            → MatchOption l (Unit {0}) (λ bytes. NodesFault limits texts at rev d bytes e)
        by None n x p f here = tt
        by (Some bytes) None x p f here = absurd p
        by (Some bytes) (Some mid) None p f here = absurd f
        by (Some bytes) (Some mid) (Some rest) p f here = why bytes mid rest e p f fails here

-- ---- one record more, as the loader reads it

module _ (limits limits' : Limits) (texts texts' : Texts) (now next : Option (List ℕ)) (same_limits : limits' ≡ limits)
    (same_texts : texts' ≡ texts) where
  pub reads_here : (r r' : Result (Option Record) DumpFault) → r ≡ r' → Reads (λ r. r) now next r (record_at limits' texts')
      → Reads (λ r. r) now next r' (record_at limits texts)
  reads_here r r' same h =
      subst (λ (x : Result (Option Record) DumpFault). Reads (λ r. r) now next x (record_at limits texts)) same
      (subst (λ (t : Texts). Reads (λ r. r) now next r (record_at limits t)) same_texts
      (subst (λ (l : Limits). Reads (λ r. r) now next r (record_at l texts')) same_limits h))

module _ (limits limits' : Limits) (texts texts' texts'' : Texts) (rev rev' : Option ℕ) (left now next : Option (List ℕ)) (d made : Draft)
    (h : NodesSoFar limits texts rev left d now made) (same_limits : limits' ≡ limits) (same_texts : texts' ≡ texts)
    (same_texts' : texts'' ≡ texts) (same_rev : rev' ≡ rev) where
  pub end_read : (at : Option ℕ → List ℕ → Type 0) (read : Option Record) → read ≡ None
      → Reads (λ r. r) now next (Ok read) (record_at limits' texts') → IfKnownAt at rev now
      → LoadsNodes limits texts at (record { rev = rev; draft = d; left = left }) None (record { rev = rev'; draft = made; left = next })
  end_read at read is r shown =
      all_nodes limits texts rev left d now made h next at rev' None
      (reads_here limits limits' texts texts' now next same_limits same_texts (Ok read) (Ok None)
      (ap (λ (x : Option Record). Ok x) is) r) shown

  pub fault_read : (at : Option ℕ → List ℕ → Type 0) (e : DumpFault)
      → Reads {X = Option Record} (λ r. r) now next (Err e) (record_at limits' texts')
      → UnlessBroken {X = Option Record} (Err e) (IfKnownAt at rev now)
      → RefusesNodes limits texts at (record { rev = rev; draft = d; left = left }) (of_dump e)
  fault_read at e r shown =
      no_record_more limits texts rev left d now made h next at e
      (reads_here limits limits' texts texts' now next same_limits same_texts (Err e) (Err e) refl r) shown

  module _ (next' : Option (List ℕ)) (after : Draft) (read : Option Record) (what : Record) (is : read ≡ Some what) (same_left : next' ≡ next)
      (r : Reads (λ r. r) now next (Ok read) (record_at limits' texts')) where
    here : Reads (λ r. r) now next (Ok (Some what)) (record_at limits texts)
    here = reads_here limits limits' texts texts' now next same_limits same_texts (Ok read) (Ok (Some what))
        (ap (λ (x : Option Record). Ok x) is) r

    takes_here : (begins : Option ℕ) → Takes texts'' rev' what made after begins → Takes texts rev what made after begins
    takes_here begins t =
        subst (λ (x : Option ℕ). Takes texts x what made after begins) same_rev
        (subst (λ (x : Texts). Takes x rev' what made after begins) same_texts' t)

    pub one_more : Takes texts'' rev' what made after None → NodesSoFar limits texts rev left d next' after
    one_more t = subst (λ (l : Option (List ℕ)). NodesSoFar limits texts rev left d l after) (sym same_left) (by what here (takes_here None t))
      where
        by : (w : Record) → Reads (λ r. r) now next (Ok (Some w)) (record_at limits texts) → Takes texts rev w made after None
            → NodesSoFar limits texts rev left d next after
        by Other x t = subst (λ (a : Draft). NodesSoFar limits texts rev left d next a) (sym t.1)
            (one_more_other limits texts rev left d now made h next x)
        by (Node node) x t = one_more_node limits texts rev left d now made h next after node x t.1
        by (Revision number) x t = (let no : None ≡ Some number = t.0 in absurd (cc))

    pub revision_read : (at : Option ℕ → List ℕ → Type 0) (rev'' : Option ℕ) (number : ℕ) → Takes texts'' rev' what made after (Some number)
        → IfKnownAt at rev now
        → LoadsNodes limits texts at (record { rev = rev; draft = d; left = left }) (Some number)
        (record { rev = rev''; draft = after; left = next' })
    revision_read at rev'' number t shown =
        subst (λ (l : Option (List ℕ)). LoadsNodes limits texts at (record { rev = rev; draft = d; left = left }) (Some number)
        (record { rev = rev''; draft = after; left = l })) (sym same_left) (by what here (takes_here (Some number) t))
      where
        by : (w : Record) → Reads (λ r. r) now next (Ok (Some w)) (record_at limits texts) → Takes texts rev w made after (Some number)
            → LoadsNodes limits texts at (record { rev = rev; draft = d; left = left }) (Some number)
            (record { rev = rev''; draft = after; left = next })
        by Other x t = (let no : Some number ≡ None = t.0 in absurd (cc))
        by (Node node) x t = (let no : Some number ≡ None = t.0 in absurd (cc))
        by (Revision n) x t =
            subst (λ (a : Draft). LoadsNodes limits texts at (record { rev = rev; draft = d; left = left }) (Some number)
            (record { rev = rev''; draft = a; left = next })) (sym t.1)
            (subst (λ (b : Option ℕ). LoadsNodes limits texts at (record { rev = rev; draft = d; left = left }) b
            (record { rev = rev''; draft = made; left = next })) (sym t.0)
            (all_nodes limits texts rev left d now made h next at rev'' (Some n) x shown))

    pub record_refused : (at : Option ℕ → List ℕ → Type 0) (e : LoadFault) → RefusesRecord texts'' rev' what made e → IfKnownAt at rev now
        → RefusesNodes limits texts at (record { rev = rev; draft = d; left = left }) e
    record_refused at e f shown =
        by what here
        (subst (λ (x : Option ℕ). RefusesRecord texts x what made e) same_rev
        (subst (λ (x : Texts). RefusesRecord x rev' what made e) same_texts' f))
      where
        by : (w : Record) → Reads (λ r. r) now next (Ok (Some w)) (record_at limits texts) → RefusesRecord texts rev w made e
            → RefusesNodes limits texts at (record { rev = rev; draft = d; left = left }) e
        by Other x f = absurd f
        by (Node node) x f = bad_node_next limits texts rev left d now made h next at node e x f shown
        by (Revision number) x f = absurd f
