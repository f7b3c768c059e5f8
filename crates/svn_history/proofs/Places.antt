-- Where a dump is refused, seen from an earlier reader, or said in other words.
use Rattle.std.proofs.Common.{◌≡◌, ℕ, ◌+◌, List, length, Option, Some, None, Err, subst, sym, ap, ◌∙◌}
use Rattle.std.specs.Prelude.{false, MatchOption}
use Rattle.svn_repo.specs.History.{History}
use Rattle.svn_dump.specs.declared.fault.DumpFault.{DumpFault}
use Rattle.svn_dump.specs.declared.fault.DumpFault.TheVariants as dump
use Rattle.svn_dump.specs.declared.reader.Reader.{Reader}
use Rattle.svn_dump.specs.declared.record.Record.{Record}
use Rattle.svn_dump.specs.declared.sections.Limits.{Limits}
use Rattle.svn_dump.specs.declared.sections.Texts.{Texts}
use Rattle.svn_dump.specs.Blocks.{block_at}
use Rattle.svn_dump.specs.Counts.{Counts}
use Rattle.svn_dump.specs.Readers.{left_in, headers_len, after_headers, Shows, UnlessBroken}
use Rattle.svn_history.specs.declared.fault.LoadFault.{LoadFault}
use Rattle.svn_history.specs.Steps.{Draft}
use Rattle.svn_history.specs.Loading.{NodesAt}
use Rattle.svn_history.specs.Places.{AreHeaders, IsShownBy}
use Rattle.svn_history.specs.Parts.{Loading, NodesFault, bad_record, bad_node, outside, RefusesNodes, EndsPart, RefusesPart, bad_nodes, bad_next, RefusesOne, at_once, later, RefusesAll, at_first, after_one}

abbrev pub IfKnownAt : (Option ℕ → List ℕ → Type 0) → Option ℕ → Option (List ℕ) → Type 0
IfKnownAt at rev left = MatchOption left (Unit {0}) (at rev)

-- ---- what a reader shows

module _ {R : Type 0} (remaining : R → Option (List ℕ)) (first now new : Reader R) (last rev : Option ℕ)
    (counts : Counts first.source.taken (left_in remaining first) now.source.taken (left_in remaining now)) (same : last ≡ rev)
    (limits : now.limits ≡ first.limits) where
  -- the record that it reads next
  pub shown_next : Shows now.limits now.source.taken (left_in remaining now) new.begun new.block.items
      → IfKnownAt (IsShownBy remaining first new last) rev (left_in remaining now)
  unfolding Shows
  shown_next shows = by (left_in remaining now) counts shows
    where
      by : (left : Option (List ℕ)) → Counts first.source.taken (left_in remaining first) now.source.taken left
          → Shows now.limits now.source.taken left new.begun new.block.items → IfKnownAt (IsShownBy remaining first new last) rev left
      by None counted shows = tt
      by (Some bytes) counted shows = (
        same,
        subst (λ (l : Limits). AreHeaders first.source.taken (left_in remaining first) new.begun new.block.items bytes (block_at false l.headers bytes))
            limits
            (shows.0, λ all of. ap (λ (b : List ℕ). new.begun + headers_len b + length (after_headers bytes (block_at false now.limits.headers bytes))) (sym shows.0) ∙ shows.1 all (counted all of)),
      )

  -- one that it refuses
  pub shown_refused : (e : DumpFault)
      → UnlessBroken {X = Option Record} (Err e) (Shows now.limits now.source.taken (left_in remaining now) new.begun new.block.items)
      → UnlessBroken {X = Option Record} (Err e) (IfKnownAt (IsShownBy remaining first new last) rev (left_in remaining now))
  shown_refused (dump.Refused reason) shows = shown_next shows
  shown_refused dump.Read shows = tt
  shown_refused dump.Memory shows = tt

-- seen from a reader before
pub shown_before : {R : Type 0} (remaining : R → Option (List ℕ)) (first now new : Reader R) (last : Option ℕ)
    → Counts first.source.taken (left_in remaining first) now.source.taken (left_in remaining now) → now.limits ≡ first.limits
    → (rev : Option ℕ) (bytes : List ℕ) → IsShownBy remaining now new last rev bytes → IsShownBy remaining first new last rev bytes
shown_before remaining first now new last counts limits rev bytes h = (
  h.0,
  subst (λ (l : Limits). AreHeaders first.source.taken (left_in remaining first) new.begun new.block.items bytes (block_at false l.headers bytes))
      limits (h.1.0, λ all of. h.1.1 all (counts all of)),
)

-- the same of a reader that is the same
pub shown_same : {R : Type 0} (remaining : R → Option (List ℕ)) (old new new' : Reader R) (last last' : Option ℕ) → new' ≡ new → last' ≡ last
    → (rev : Option ℕ) (bytes : List ℕ) → IsShownBy remaining old new last rev bytes → IsShownBy remaining old new' last' rev bytes
shown_same {R} remaining old new new' last last' same same' rev bytes h =
    subst (λ (r : Reader R). IsShownBy remaining old r last' rev bytes) (sym same)
    (subst (λ (l : Option ℕ). IsShownBy remaining old new l rev bytes) (sym same') h)

-- ---- a place in other words

module _ (limits : Limits) (texts : Texts) (at at' : Option ℕ → List ℕ → Type 0)
    (words : (rev : Option ℕ) (bytes : List ℕ) → at rev bytes → at' rev bytes) where
  nodes_fault_at : (rev : Option ℕ) (d : Draft) (bytes : List ℕ) (e : LoadFault) → NodesFault limits texts at rev d bytes e
      → NodesFault limits texts at' rev d bytes e
  nodes_fault_at rev d bytes e (bad_record nodes mid read reason reads made is same shown) =
      bad_record nodes mid read reason reads made is same (words rev mid shown)
  nodes_fault_at rev d bytes e (bad_node nodes mid rest read node reads made is fails shown) =
      bad_node nodes mid rest read node reads made is fails (words rev mid shown)
  nodes_fault_at rev d bytes e (outside is) = outside is

  pub nodes_refused_at : (old : Loading) (e : LoadFault) → RefusesNodes limits texts at old e → RefusesNodes limits texts at' old e
  nodes_refused_at old e why = by old.left why
    where
      by : (left : Option (List ℕ)) → MatchOption left (Unit {0}) (λ bytes. NodesFault limits texts at old.rev old.draft bytes e)
          → MatchOption left (Unit {0}) (λ bytes. NodesFault limits texts at' old.rev old.draft bytes e)
      by None h = tt
      by (Some bytes) h = nodes_fault_at old.rev old.draft bytes e h

  pub ends_at : (old : Loading) (next : Option ℕ) (ended : History) → EndsPart limits texts at old next ended
      → EndsPart limits texts at' old next ended
  ends_at old next ended ends = record {
    nodes = ends.nodes;
    bytes = by old.left ends.bytes;
    read = ends.read;
    made = ends.made;
    ended_is = ends.ended_is;
  }
    where
      by : (left : Option (List ℕ))
          → MatchOption left (Unit {0}) (λ bytes. (rest : List ℕ) × (read : NodesAt limits texts bytes ends.nodes next rest) × at old.rev read.mid)
          → MatchOption left (Unit {0}) (λ bytes. (rest : List ℕ) × (read : NodesAt limits texts bytes ends.nodes next rest) × at' old.rev read.mid)
      by None h = tt
      by (Some bytes) h = (h.0, h.1, words old.rev h.1.mid h.2)

  pub part_refused_at : (old : Loading) (e : LoadFault) (h : History) → RefusesPart limits texts at old e h → RefusesPart limits texts at' old e h
  part_refused_at old e h (bad_nodes why same) = bad_nodes (nodes_refused_at old e why) same
  part_refused_at old e h (bad_next next ended ends why) = bad_next next ended (ends_at old next ended ends) why

  pub one_refused_at : (old : Loading) (e : LoadFault) (h : History) → RefusesOne limits texts at old e h → RefusesOne limits texts at' old e h
  one_refused_at old e h (at_once why) = at_once (part_refused_at old e h why)
  one_refused_at old e h (later first none loads some why) = later first none loads some (part_refused_at first e h why)

  pub all_refused_at : (old : Loading) (e : LoadFault) (h : History) → RefusesAll limits texts at old e h → RefusesAll limits texts at' old e h
  all_refused_at old e h (at_first why) = at_first (one_refused_at old e h why)
  all_refused_at old e h (after_one mid done one some why) = after_one mid done one some (all_refused_at mid e h why)

-- what was taken of a reader that is the same
pub counts_on : {R : Type 0} (remaining : R → Option (List ℕ)) (first now now' : Reader R) → now' ≡ now
    → Counts first.source.taken (left_in remaining first) now.source.taken (left_in remaining now)
    → Counts first.source.taken (left_in remaining first) now'.source.taken (left_in remaining now')
counts_on {R} remaining first now now' same counts =
    subst (λ (r : Reader R). Counts first.source.taken (left_in remaining first) r.source.taken (left_in remaining r)) (sym same) counts
