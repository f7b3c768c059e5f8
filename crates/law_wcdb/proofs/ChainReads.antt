-- What is read of overflow pages and of rows.
use Rattle.std.proofs.Common.{◌≡◌, inl, inr, ℕ, zero, suc, ◌-◌, ◌<◌, ◌≤◌, min, true, List, [], ◌∷◌, ◌++◌, length, take, drop, Some, Ok, refl, sym, ap, subst, ◌∙◌, arith, append_assoc, append-nil, eqb-true, subst₂, ap₂, pos_of_ne-zero, le_refl}
use Rattle.std.proofs.Math.Nat.{min_comm}
use Rattle.std.proofs.lemmas.Bool.{eqb-false, cond-true, cond-false, eq-eqb, ltb-true, ne_eqb}
use Rattle.std.proofs.lemmas.List.{map-append}
use Rattle.std.specs.Int.{w64, cast_signed}
use Rattle.std.specs.Prelude.{◌+◌, nat_eq}
use Rattle.sqlite_pages.specs.PageMap.{PageMap}
use Rattle.sqlite_format.specs.declared.kind.Tree.TheVariants.{Table}
use Rattle.sqlite_format.specs.Bytes.{u32_at}
use Rattle.sqlite_format.specs.Varint.{varint_len}
use Rattle.sqlite_format.specs.Cell.{local_part, spilled_len, first_overflow}
use Rattle.sqlite_record.specs.Strict.{IsRecord}
use Rattle.sqlite_btree.specs.Part.{Part, all_pages}
use Rattle.sqlite_btree.specs.Items.{item}
use Rattle.sqlite_btree.specs.Chain.{chain_bytes, payload_in, entry_of}
use Rattle.sqlite_btree.specs.Stored.{as_row}
use Rattle.sqlite_btree.proofs.ChainLemmas.{bytes_step, bytes_none}
use Rattle.svn_wcdb.specs.Records.{is_record}
use Rattle.svn_wcdb.specs.Tables.{Bytes, Rows, link_after, chain_end, chain_after, has_short_length, payload_of, rowid_of, row_after}
use Rattle.svn_wcdb.proofs.RecordTests.{tells_records}
use Rattle.law_wcdb.specs.Laws.{shown}
use Rattle.law_wcdb.specs.Trees.{IsWholeChain, IsWholeRow, chain_pages, row_pages}
use Rattle.law_wcdb.proofs.Pages.{AreSized}
use Rattle.law_wcdb.proofs.Choices.{ok_same, chosen, unless_fault, bound_ok, given_ok}

pub page_there : (pages : PageMap) (n : ℕ) (page : List ℕ) → pages n ≡ Some page → all_pages pages n ≡ page
page_there pages n page there = rw there refl

-- the bytes from a page on are read after those before them
pub record ReadsChain (pages : Part) (usable fuel n left : ℕ) (old new : List ℕ) (spare rest : ℕ) : Type 0 where
  pub chain : IsWholeChain pages usable fuel n left
  pub taken : spare ≡ rest + chain_pages pages usable fuel n left
  pub bytes : new ≡ old ++ chain_bytes pages usable fuel n left

no_link : (pages : Part) (usable fuel n left : ℕ) → left ≡ 0 → n ≡ 0 → IsWholeChain pages usable fuel n left
no_link pages usable zero n left none end = (none, end)
no_link pages usable (suc fuel) n left none end = inl (none, end)

none_taken : (pages : Part) (usable fuel n left : ℕ) → left ≡ 0 → chain_pages pages usable fuel n left ≡ 0
none_taken pages usable zero n left none = refl
none_taken pages usable (suc fuel) n left none = cond-true _ _ _ (eq-eqb left 0 none)

pub one_taken : (pages : Part) (usable fuel n left : ℕ) → 0 < left
    → chain_pages pages usable (suc fuel) n left ≡ suc (chain_pages pages usable fuel (u32_at (pages n) 0) (left - min (usable - 4) left))
one_taken pages usable fuel n left some = cond-false _ _ _ (ne_eqb left 0 (λ e. omega (arith, e, some)))

chain_ended : (pages : Part) (usable fuel n left : ℕ) (old : List ℕ) (spare : ℕ) (new : List ℕ) (rest : ℕ) → left ≡ 0 → chain_end n old spare ≡ Ok (new, rest)
    → ReadsChain pages usable fuel n left old new spare rest
unfolding chain_end
chain_ended pages usable fuel n left old spare new rest none read =
    let end = unless_fault (nat_eq n 0) _ _ _ read in
    record {
      chain = no_link pages usable fuel n left none (eqb-true n 0 end.0);
      taken = omega (arith, ap (λ (r : List ℕ × ℕ). r.1) (ok_same end.1), none_taken pages usable fuel n left none);
      bytes = sym (ap (λ (r : List ℕ × ℕ). r.0) (ok_same end.1)) ∙ sym (append-nil old) ∙ ap (λ l. old ++ l) (sym (bytes_none pages usable fuel n left none));
    }

-- one page of a chain
pub record ReadsLink (pages : PageMap) (usable n left : ℕ) (old : List ℕ) (link : ℕ × ℕ × List ℕ) : Type 0 where
  pub page : List ℕ
  pub there : pages n ≡ Some page
  pub next : link.0 ≡ u32_at page 0
  pub left_is : link.1 ≡ left - min (usable - 4) left
  pub bytes : link.2 ≡ old ++ take (min (usable - 4) left) (drop 4 page)

pub link_read : (pages : PageMap) (usable n left : ℕ) (old : List ℕ) (link : ℕ × ℕ × List ℕ) → link_after pages usable n left old ≡ Ok link
    → ReadsLink pages usable n left old link
unfolding link_after
link_read pages usable n left old link read =
    let found = bound_ok _ _ _ read in
    let same = ok_same found.2 in
    let comm = min_comm left (usable - 4) in
    record {
      page = found.0;
      there = given_ok _ _ _ found.1;
      next = sym (ap (λ (l : ℕ × ℕ × List ℕ). l.0) same);
      left_is = sym (ap (λ (l : ℕ × ℕ × List ℕ). l.1) same) ∙ ap (λ k. left - k) comm;
      bytes = sym (ap (λ (l : ℕ × ℕ × List ℕ). l.2) same) ∙ ap (λ k. old ++ take k (drop 4 found.0)) comm;
    }

link_joined : (pages : PageMap) (usable fuel n left : ℕ) (old new : List ℕ) (spare rest : ℕ) (link : ℕ × ℕ × List ℕ) → AreSized pages usable → 0 < left
    → ReadsLink pages usable n left old link → ReadsChain (all_pages pages) usable fuel link.0 link.1 link.2 new spare rest
    → ReadsChain (all_pages pages) usable (suc fuel) n left old new (suc spare) rest
link_joined pages usable fuel n left old new spare left_over link sized some first rest =
    let all = all_pages pages in
    let there = page_there pages n first.page first.there in
    let next : link.0 ≡ u32_at (all n) 0 = first.next ∙ ap (λ p. u32_at p 0) (sym there) in
    let chunk = take (min (usable - 4) left) (drop 4 (all n)) in
    let bytes : link.2 ≡ old ++ chunk = first.bytes ∙ ap (λ p. old ++ take (min (usable - 4) left) (drop 4 p)) (sym there) in
    let more = chain_bytes all usable fuel (u32_at (all n) 0) (left - min (usable - 4) left) in
    record {
      taken = omega (arith, rest.taken, ap₂ (chain_pages all usable fuel) next first.left_is, one_taken all usable fuel n left some);
      chain = inr (some, ap length there ∙ sized n first.page first.there, subst₂ (λ m k. IsWholeChain all usable fuel m k) next first.left_is rest.chain);
      bytes = rest.bytes ∙ ap (λ l. l ++ chain_bytes all usable fuel link.0 link.1) bytes
          ∙ ap₂ (λ m k. (old ++ chunk) ++ chain_bytes all usable fuel m k) next first.left_is
          ∙ append_assoc old chunk more
          ∙ ap (λ l. old ++ l) (sym (bytes_step all usable fuel n left some));
    }

chain_read : (pages : PageMap) (usable : ℕ) → 4 < usable → AreSized pages usable → (spare fuel n left : ℕ) (old new : List ℕ) (rest : ℕ) → left ≤ fuel
    → chain_after pages usable spare n left old ≡ Ok (new, rest) → ReadsChain (all_pages pages) usable fuel n left old new spare rest
unfolding chain_after
chain_read pages usable size sized zero fuel n left old new rest enough read =
    let end = unless_fault (nat_eq left 0) _ _ _ read in
    chain_ended (all_pages pages) usable fuel n left old 0 new rest (eqb-true left 0 end.0) end.1
chain_read pages usable size sized (suc spare) zero n left old new rest enough read =
    elim (chosen (nat_eq left 0) _ _ _ read) [
      | inl end ↦ chain_ended (all_pages pages) usable zero n left old (suc spare) new rest (eqb-true left 0 end.0) end.1
      | inr more ↦ absurd (eqb-false left 0 more.0 (omega (arith, enough)))
    ]
chain_read pages usable size sized (suc spare) (suc fuel) n left old new rest enough read =
    elim (chosen (nat_eq left 0) _ _ _ read) [
      | inl end ↦ chain_ended (all_pages pages) usable (suc fuel) n left old (suc spare) new rest (eqb-true left 0 end.0) end.1
      | inr more ↦
          let some : 0 < left = pos_of_ne-zero (eqb-false left 0 more.0) in
          let found = bound_ok _ _ _ more.1 in
          let first = link_read pages usable n left old found.0 found.1 in
          link_joined pages usable fuel n left old new spare rest found.0 sized some first
          (chain_read pages usable size sized spare fuel found.0.0 found.0.1 found.0.2 new rest (omega (arith, first.left_is, enough, some, size)) found.2)
    ]

-- a row's payload
pub payload_read : (pages : PageMap) (usable : ℕ) (row : List ℕ) (spare : ℕ) (bytes : List ℕ) (rest : ℕ) → 4 < usable → AreSized pages usable
    → payload_of pages usable row spare ≡ Ok (bytes, rest)
    → ReadsChain (all_pages pages) usable (spilled_len Table usable row) (first_overflow Table usable row) (spilled_len Table usable row)
    (local_part Table usable row) bytes spare rest
unfolding payload_of
payload_read pages usable row spare bytes rest size sized read =
    chain_read pages usable size sized spare (spilled_len Table usable row) (first_overflow Table usable row) (spilled_len Table usable row)
    (local_part Table usable row) bytes rest (le_refl _) (unless_fault (has_short_length row) _ _ _ read).1

payload_short : (pages : PageMap) (usable : ℕ) (row : List ℕ) (spare : ℕ) (new : Bytes) → payload_of pages usable row spare ≡ Ok new → varint_len row ≤ 8
unfolding payload_of
payload_short pages usable row spare new read =
    omega (arith, ltb-true (varint_len row) 9 (unless_fault (has_short_length row) _ _ _ read).0)

-- one more row
pub record ReadsRow (pages : Part) (usable : ℕ) (row : List ℕ) (old new : Rows) : Type 0 where
  pub whole : IsWholeRow pages usable row
  pub taken : old.1 ≡ new.1 + row_pages pages usable row
  pub rows : shown new ≡ shown old ++ as_row (entry_of Table usable pages (item true row)) ∷ []

shown_one : (old : Rows) (rowid : ℕ) (bytes : List ℕ) (spare : ℕ) → shown (old.0 ++ record { rowid = rowid; bytes = bytes } ∷ [], spare)
    ≡ shown old ++ (cast_signed w64 rowid, bytes) ∷ []
shown_one old rowid bytes spare = map-append _ old.0 _

pub row_read : (pages : PageMap) (usable : ℕ) (row : List ℕ) (old new : Rows) → 4 < usable → AreSized pages usable → row_after pages usable row old ≡ Ok new
    → ReadsRow (all_pages pages) usable row old new
unfolding row_after payload_in
row_read pages usable row old new size sized read =
    let found = bound_ok _ _ _ read in
    let test = unless_fault (is_record found.0.0) _ _ _ found.2 in
    let payload = payload_read pages usable row old.1 found.0.0 found.0.1 size sized found.1 in
    record {
      taken = omega (arith, payload.taken, ap (λ (r : Rows). r.1) (ok_same test.1));
      whole = record {
        short = payload_short pages usable row old.1 found.0 found.1;
        chain = payload.chain;
        whole = subst IsRecord payload.bytes ((tells_records found.0.0).0 test.0);
      };
      rows = sym (ap shown (ok_same test.1)) ∙ shown_one old (rowid_of row) found.0.0 found.0.1
          ∙ ap (λ b. shown old ++ (cast_signed w64 (rowid_of row), b) ∷ []) payload.bytes;
    }
