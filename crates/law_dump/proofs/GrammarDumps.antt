-- Records one after another, and the end: by the grammar, and read.
use Rattle.std.proofs.Common.{◌≡◌, inl, inr, ℕ, ◌+◌, ◌-◌, ◌≤◌, Bool, true, false, cond, not, ◌||◌, List, [], ◌∷◌, ◌++◌, length, map, unwrap_or, Some, None, Ok, refl, sym, ap, ap₂, subst, ◌∙◌, arith, append_assoc, append-nil, nat_eq, length-append}
use Rattle.std.proofs.lemmas.Bool.{eqb-true, ne_eqb}
use Rattle.std.proofs.lemmas.Option.{none-some}
use Rattle.svn_lists.proofs.Options.{some-none}
use Rattle.svn_dump.specs.declared.fault.Reason.TheVariants.{HeadersTooLong}
use Rattle.svn_dump.specs.declared.record.Record.{Record}
use Rattle.svn_dump.specs.declared.sections.Limits.{Limits}
use Rattle.svn_dump.specs.declared.sections.Texts.{Texts}
use Rattle.svn_dump.specs.declared.sections.Texts.TheVariants.{Whole}
use Rattle.svn_dump.specs.Reading.{◌>>=◌}
use Rattle.svn_dump.specs.Blocks.{headers_at, block_at, with_front, is_line_feed, is_space}
use Rattle.svn_dump.specs.Records.{headed_at, record_after, record_at}
use Rattle.law_dump.specs.Laws.{IsReadAs, IsDumpRead, AreWithin, IsDumpWithin, kept_record, kept_records}
use Rattle.law_dump.specs.Grammar.{ended, IsBlank, IsRecord, IsEnd, AreRecords, IsDumpOf}
use Rattle.law_dump.proofs.Lacking.{lacks, lacks_append, lacks_parts}
use Rattle.law_dump.proofs.Choices.{chosen, ok_second, front_ok, bound_ok, read_same}
use Rattle.law_dump.proofs.GrammarBlocks.{blank_lines_passed}
use Rattle.law_dump.proofs.GrammarFormat.{format_found, format_given}
use Rattle.law_dump.proofs.GrammarRecords.{record_found}
use Rattle.law_dump.proofs.GrammarReads.{record_given, one_record, headers_len, text_len, all_within}
use Rattle.law_dump.proofs.DumpReads.{kept_ones}

-- ---- the end that is found

-- a blank line before the end
blank_first : (l bytes : List ℕ) → IsBlank l → IsEnd bytes → IsEnd (l ++ 10 ∷ bytes)
blank_first l bytes h e = record {
  blank = l ∷ e.blank;
  last = e.last;
  parts =
      ap (λ (x : List ℕ). l ++ 10 ∷ x) e.parts ∙ sym (append_assoc l (10 ∷ []) (ended e.blank ++ e.last))
      ∙ sym (append_assoc (l ++ 10 ∷ []) (ended e.blank) e.last);
  blank_is = (h, e.blank_is);
  last_is = e.last_is;
}

-- the same after the begin of a blank line
abbrev EndBy : Bool → List ℕ → Type 0
EndBy false bytes = IsEnd bytes
EndBy true bytes = (b : ℕ) (front : List ℕ) → is_space b ≡ true → lacks 10 (b ∷ front) ≡ true → IsEnd ((b ∷ front) ++ bytes)

no_bytes : (blank : Bool) → EndBy blank []
no_bytes false = record { blank = []; last = []; parts = refl; blank_is = tt; last_is = record { whole = refl; blank = refl } }
no_bytes true = λ b front space plain. record {
  blank = [];
  last = b ∷ front;
  parts = append-nil (b ∷ front);
  blank_is = tt;
  last_is = record { whole = plain; blank = space };
}

one_byte : (blank feed : Bool) (b : ℕ) (bs : List ℕ) → is_line_feed b ≡ feed → (blank || is_space b) ≡ true → EndBy (not feed) bs
    → EndBy blank (b ∷ bs)
one_byte true true b bs e h k =
    λ c front space plain.
    subst (λ (x : ℕ). IsEnd ((c ∷ front) ++ x ∷ bs)) (sym (eqb-true b 10 e)) (blank_first (c ∷ front) bs (record { whole = plain; blank = space }) k)
one_byte true false b bs e h k =
    λ c front space plain.
    subst IsEnd (append_assoc (c ∷ front) (b ∷ []) bs)
    (k c (front ++ b ∷ []) space (lacks_append 10 (c ∷ front) (b ∷ []) plain (rw e refl)))
one_byte false true b bs e h k =
    subst (λ (x : ℕ). IsEnd (x ∷ bs)) (sym (eqb-true b 10 e)) (blank_first [] bs (record { whole = refl; blank = refl }) k)
one_byte false false b bs e h k = k b [] h (rw e refl)

end_found : (bytes : List ℕ) (blank : Bool) (room : ℕ) (rest : List ℕ) → block_at blank room bytes ≡ Ok ([], rest) → EndBy blank bytes
unfolding block_at
end_found [] blank room rest h = no_bytes blank
end_found (b ∷ bs) blank room rest h =
    let on = block_at (not (is_line_feed b)) (room - 1) bs in
    let first = with_front (b ∷ []) (headers_at false (room - 1) bs) in
    let some = ok_second (nat_eq room 0) HeadersTooLong (cond (blank || is_space b) on first) ([], rest) h in
    elim (chosen (blank || is_space b) on first (Ok ([], rest)) some.1) [
      | inl skip ↦ one_byte blank (is_line_feed b) b bs refl skip.0 (end_found bs (not (is_line_feed b)) (room - 1) rest skip.1)
      | inr begin ↦ (
          let after = front_ok (b ∷ []) (headers_at false (room - 1) bs) [] rest begin.1 in
          absurd (not_empty b after.0 after.2)
          )
    ]
  where
    not_empty : (b : ℕ) (bs : List ℕ) → [] ≡ b ∷ bs → ⊥
    not_empty b bs e = cc

no_record : (limits : Limits) (texts : Texts) (bytes rest : List ℕ) → record_at limits texts bytes ≡ Ok (None, rest) → IsEnd bytes
unfolding record_at
no_record limits texts bytes rest h =
    let block = bound_ok (block_at false limits.headers bytes) _ _ h in
    by block.0.0 block.0.1 block.1 block.2
  where
    by : (block after : List ℕ) → block_at false limits.headers bytes ≡ Ok (block, after) → record_after limits texts block after ≡ Ok (None, rest)
        → IsEnd bytes
    by [] after e k = end_found bytes false limits.headers after e
    by (b ∷ block) after e k =
        let read = bound_ok (headed_at limits texts (b ∷ block) after) (λ read. Ok (Some read.0, read.1)) (None, rest) k in
        absurd (some-none read.0.0 (read_same (Some read.0.0, read.0.1) (None, rest) read.2).0)

-- ---- all records

record Found (texts : Texts) (bytes : List ℕ) (records : List Record) : Type 0 where
  whole : List Record
  kept_is : records ≡ map (kept_record texts) whole
  are : AreRecords bytes whole

found : (limits : Limits) (texts : Texts) (bytes : List ℕ) (records : List Record) → IsReadAs limits texts bytes records → Found texts bytes records
found limits texts bytes [] h = record { whole = []; kept_is = refl; are = no_record limits texts bytes [] h }
found limits texts bytes (what ∷ records) h =
    let one = record_found limits texts bytes what h.0 h.1 in
    let more = found limits texts h.0 records h.2 in
    record {
      whole = one.whole ∷ more.whole;
      kept_is = ap₂ (λ (x : Record) (l : List Record). x ∷ l) one.what_is more.kept_is;
      are = (h.0, one.is, more.are);
    }

records_found : (limits : Limits) (texts : Texts) (bytes : List ℕ) (records : List Record) → IsReadAs limits texts bytes records
    → (whole : List Record) × (records ≡ kept_records texts whole) × AreRecords bytes whole
records_found limits texts bytes records h =
    let all = found limits texts bytes records h in
    (all.whole, all.kept_is ∙ kept_ones texts all.whole, all.are)

-- ---- the end is read

blank_end : (l : List ℕ) (room : ℕ) → lacks 10 l ≡ true → length l ≤ room → block_at true room l ≡ Ok ([], [])
unfolding block_at
blank_end [] room plain fits = refl
blank_end (b ∷ l) room plain fits =
    let parts = lacks_parts 10 b l plain in
    let some : nat_eq room 0 ≡ false = ne_eqb room 0 (λ none. omega (arith, none, fits)) in
    rw (some, parts.0) (blank_end l (room - 1) parts.1 (omega (arith, fits)))

last_end : (l : List ℕ) (room : ℕ) → IsBlank l → length l ≤ room → block_at false room l ≡ Ok ([], [])
unfolding block_at
last_end [] room h fits = refl
last_end (b ∷ l) room h fits =
    let parts = lacks_parts 10 b l h.whole in
    let space : is_space b ≡ true = h.blank in
    let some : nat_eq room 0 ≡ false = ne_eqb room 0 (λ none. omega (arith, none, fits)) in
    rw (some, space, parts.0) (blank_end l (room - 1) parts.1 (omega (arith, fits)))

end_given : (limits : Limits) (texts : Texts) (bytes : List ℕ) → IsEnd bytes → length bytes ≤ limits.headers
    → record_at limits texts bytes ≡ Ok (None, [])
unfolding record_at
end_given limits texts bytes e fits =
    let all = ap length e.parts ∙ length-append (ended e.blank) e.last in
    let room = limits.headers - length (ended e.blank) in
    let whole : limits.headers ≡ length (ended e.blank) + room = omega (arith, fits, all) in
    let read =
    ap₂ (λ (n : ℕ) (l : List ℕ). block_at false n l) whole e.parts ∙ blank_lines_passed e.blank room e.last e.blank_is
    ∙ last_end e.last room e.last_is (omega (arith, fits, all)) in
    ap (λ r. r >>= λ block. record_after limits texts block.0 block.1) read

given : (limits : Limits) (texts : Texts) (bytes : List ℕ) (records : List Record) (are : AreRecords bytes records)
    → AreWithin limits texts bytes records are → IsReadAs limits texts bytes (map (kept_record texts) records)
given limits texts bytes [] are within = end_given limits texts bytes are within
given limits texts bytes (what ∷ records) are within =
    (are.0, record_given limits texts bytes what are.0 are.1 within.0, given limits texts are.0 records are.2 within.1)

records_given : (limits : Limits) (texts : Texts) (bytes : List ℕ) (records : List Record) (are : AreRecords bytes records)
    → AreWithin limits texts bytes records are → IsReadAs limits texts bytes (kept_records texts records)
records_given limits texts bytes records are within =
    subst (IsReadAs limits texts bytes) (kept_ones texts records) (given limits texts bytes records are within)

-- ---- the records are these alone

no_end : (bytes : List ℕ) (what : Record) (rest : List ℕ) → IsRecord bytes what rest → IsEnd bytes → ⊥
no_end bytes what rest r e =
    let limits : Limits = record { headers = headers_len r + length bytes; props = length (unwrap_or r.prop_bytes []); text = text_len what } in
    let read = record_given limits Whole bytes what rest r (all_within limits bytes what rest r (omega arith) (omega arith) (omega arith)) in
    let end = end_given limits Whole bytes e (omega arith) in
    none-some (kept_record Whole what) (read_same (None, []) (Some (kept_record Whole what), rest) (sym end ∙ read)).0

one_list : (bytes : List ℕ) (a b : List Record) → AreRecords bytes a → AreRecords bytes b → a ≡ b
one_list bytes [] [] x y = refl
one_list bytes [] (what ∷ b) x y = absurd (no_end bytes what y.0 y.1 x)
one_list bytes (what ∷ a) [] x y = absurd (no_end bytes what x.0 x.1 y)
one_list bytes (what ∷ a) (other ∷ b) x y =
    let first = one_record bytes what other x.0 y.0 x.1 y.1 in
    ap₂ (λ (r : Record) (l : List Record). r ∷ l) first.0
    (one_list x.0 a b x.2 (subst (λ (l : List ℕ). AreRecords l b) (sym first.1) y.2))

-- ---- whole dumps

pub dump_found : (limits : Limits) (texts : Texts) (bytes : List ℕ) (format : ℕ) (records : List Record)
    → IsDumpRead limits texts bytes format records → (whole : List Record) × (records ≡ kept_records texts whole) × IsDumpOf bytes format whole
dump_found limits texts bytes format records h =
    let all = records_found limits texts h.0 records h.2 in
    (all.0, all.1, record { rest = h.0; first = format_found limits bytes format h.0 h.1; are = all.2 })

pub dump_given : (limits : Limits) (texts : Texts) (bytes : List ℕ) (format : ℕ) (records : List Record) (d : IsDumpOf bytes format records)
    → IsDumpWithin limits texts d → IsDumpRead limits texts bytes format (kept_records texts records)
dump_given limits texts bytes format records d within =
    (d.rest, format_given limits bytes format d.rest d.first within.first_fits, records_given limits texts d.rest records d.are within.records_fit)

pub one_dump : (bytes : List ℕ) (f g : ℕ) (a b : List Record) → IsDumpOf bytes f a → IsDumpOf bytes g b → (f ≡ g) × (a ≡ b)
one_dump bytes f g a b x y =
    let limits : Limits = record {
      headers = (length (ended x.first.blank) + length (ended x.first.lines)) + (length (ended y.first.blank) + length (ended y.first.lines));
      props = 0;
      text = 0;
    } in
    let first = format_given limits bytes f x.rest x.first (omega arith) in
    let second = format_given limits bytes g y.rest y.first (omega arith) in
    let same = read_same (f, x.rest) (g, y.rest) (sym first ∙ second) in
    (same.0, one_list x.rest a b x.are (subst (λ (l : List ℕ). AreRecords l b) (sym same.1) y.are))
