-- Revisions, and whole dumps, read as they were written.
use Rattle.std.proofs.Common.{◌≡◌, ℕ, ◌+◌, ◌^◌, ◌<◌, ◌≤◌, List, [], ◌∷◌, ◌++◌, length, replicate, map, Some, None, Ok, All, refl, ap, ap₂, subst, ◌∙◌, arith, append_assoc, append-nil, codes, decimal, length-append}
use Rattle.std.specs.List.{flat_map}
use Rattle.std.proofs.lemmas.Bool.{le-leb}
use Rattle.std.proofs.lemmas.Fmt.{length-decimal-le}
use Rattle.std.proofs.lemmas.List.Elements.{All-head, All-tail}
use Rattle.svn_dump.specs.declared.record.Record.{Record}
use Rattle.svn_dump.specs.declared.record.Record.TheVariants.{Other, Revision, Node}
use Rattle.svn_dump.specs.declared.sections.Limits.{Limits}
use Rattle.svn_dump.specs.declared.sections.Texts.{Texts}
use Rattle.svn_dump.specs.declared.sections.Texts.TheVariants.{Whole, Sha1, Md5}
use Rattle.svn_dump.specs.Reading.{◌>>=◌}
use Rattle.svn_dump.specs.Fields.{as_number}
use Rattle.svn_dump.specs.Sections.{after_sections}
use Rattle.svn_dump.specs.Shapes.{lengths_of}
use Rattle.svn_dump.specs.Records.{headed_at, record_at, format_at}
use Rattle.svn_dump.specs.Written.{line, number_line, revision_record, format_record}
use Rattle.law_dump.specs.Laws.{header_room, written_record, IsWritableRecord, kept_record, kept_records, IsReadAs}
use Rattle.law_dump.proofs.Lacking.{number_lacks_line_feed}
use Rattle.law_dump.proofs.HeaderFields.{Field, AreFields, lines, lines_are_headers}
use Rattle.law_dump.proofs.HeaderBlocks.{block_of_lines, block_none}
use Rattle.law_dump.proofs.GrammarSections.{cut_whole}
use Rattle.law_dump.proofs.GrammarReads.{whole_record}
use Rattle.law_dump.proofs.FieldValues.{value_found, number_at}
use Rattle.law_dump.proofs.RecordReads.{record_of_block, headed_revision, lengths_of_values}
use Rattle.law_dump.proofs.NodeReads.{node_read}

-- ---- revisions

abbrev revision_fields : ℕ → List Field
revision_fields rev =
    (codes "Revision-number", Some (decimal rev)) ∷ (codes "Prop-content-length", Some (codes "10"))
    ∷ (codes "Content-length", Some (codes "10")) ∷ []

fields_lawful : (rev : ℕ) → rev < 2 ^ 64 → AreFields (revision_fields rev)
fields_lawful rev small = (
  record { name = refl; name_line = refl; value = number_lacks_line_feed rev small },
  (record { name = refl; name_line = refl; value = refl }, (record { name = refl; name_line = refl; value = refl }, tt)),
)

-- a record of three lines
three_lines : (a b c end rest : List ℕ) → (((a ++ b) ++ c) ++ end) ++ rest ≡ (a ++ (b ++ (c ++ []))) ++ (end ++ rest)
three_lines a b c end rest = simp (append_assoc, append-nil) refl

lines_fit : (rev : ℕ) → rev < 2 ^ 64 → length (lines (revision_fields rev)) ≤ 81
lines_fit rev small =
    let digits = length-decimal-le 20 rev (omega arith) (omega (arith, small)) small in
    let after = lines ((codes "Prop-content-length", Some (codes "10")) ∷ (codes "Content-length", Some (codes "10")) ∷ []) in
    omega (arith, digits, length-append (decimal rev ++ 10 ∷ []) after, length-append (decimal rev) (10 ∷ []))

lengths_read : (rev : ℕ) → rev < 2 ^ 64 → lengths_of (lines (revision_fields rev)) ≡ Ok (record { props = Some 10; text = None })
lengths_read rev small =
    let fields = revision_fields rev in
    let lawful = fields_lawful rev small in
    lengths_of_values (lines fields) (Some 10) None (Some 10)
    (ap (λ r. r >>= as_number) (value_found fields (codes "Prop-content-length") (Some (codes "10")) lawful refl))
    (ap (λ r. r >>= as_number) (value_found fields (codes "Text-content-length") None lawful refl))
    (ap (λ r. r >>= as_number) (value_found fields (codes "Content-length") (Some (codes "10")) lawful refl)) refl

section_passed : (rest : List ℕ)
    → after_sections (record { props = Some 10; text = None }) (codes "PROPS-END\n" ++ 10 ∷ rest) ≡ Ok (tt, 10 ∷ rest)
section_passed rest = rw (cut_whole (codes "PROPS-END\n") (10 ∷ rest), cut_whole [] (10 ∷ rest)) refl

headed_read : (limits : Limits) (texts : Texts) (rev : ℕ) (rest : List ℕ) → rev < 2 ^ 64
    → headed_at limits texts (lines (revision_fields rev)) (codes "PROPS-END\n" ++ 10 ∷ rest) ≡ Ok (Revision rev, 10 ∷ rest)
headed_read limits texts rev rest small =
    let fields = revision_fields rev in
    let lawful = fields_lawful rev small in
    headed_revision limits texts (lines fields) (codes "PROPS-END\n" ++ 10 ∷ rest) rev (lines_are_headers fields lawful)
    (number_at (lines fields) (codes "Revision-number") (Some rev) small
    (value_found fields (codes "Revision-number") (Some (decimal rev)) lawful refl))
    ∙ rw (lengths_read rev small, section_passed rest) refl

pub revision_read : (limits : Limits) (texts : Texts) (rev empty_lines : ℕ) (rest : List ℕ) → rev < 2 ^ 64 → header_room ≤ limits.headers
    → empty_lines ≤ 2
    → record_at limits texts (replicate empty_lines 10 ++ (revision_record rev ++ rest)) ≡ Ok (Some (Revision rev), 10 ∷ rest)
revision_read limits texts rev empty_lines rest small room few =
    let fields = revision_fields rev in
    let after = codes "PROPS-END\n" ++ 10 ∷ rest in
    let parts : revision_record rev ++ rest ≡ lines fields ++ 10 ∷ after =
    three_lines (number_line (codes "Revision-number") rev) (line (codes "Prop-content-length") (codes "10"))
    (line (codes "Content-length") (codes "10")) (codes "\nPROPS-END\n\n") rest in
    ap (λ (l : List ℕ). record_at limits texts (replicate empty_lines 10 ++ l)) parts
    ∙ record_of_block limits texts (replicate empty_lines 10 ++ (lines fields ++ 10 ∷ after)) _ _ after (Revision rev) (10 ∷ rest)
    (block_of_lines empty_lines fields limits.headers after (fields_lawful rev small) refl (omega (arith, room, few, lines_fit rev small)))
    (headed_read limits texts rev rest small)

-- ---- the first record

pub format_read : (limits : Limits) (format : ℕ) (rest : List ℕ) → 2 ≤ format → format ≤ 3 → header_room ≤ limits.headers
    → format_at limits (format_record format ++ rest) ≡ Ok (format, rest)
unfolding format_at
format_read limits format rest low high room =
    let small : format < 2 ^ 64 = omega (arith, high) in
    let name = codes "SVN-fs-dump-format-version" in
    let field : Field = (name, Some (decimal format)) in
    let lawful : AreFields (field ∷ []) = (record { name = refl; name_line = refl; value = number_lacks_line_feed format small }, tt) in
    let digits = length-decimal-le 20 format (omega arith) (omega (arith, small)) small in
    let fits : 0 + length (lines (field ∷ [])) ≤ limits.headers =
    omega (arith, room, digits, length-append (decimal format ++ 10 ∷ []) [], length-append (decimal format) (10 ∷ [])) in
    let parts : format_record format ++ rest ≡ lines (field ∷ []) ++ 10 ∷ rest = one_line (number_line name format) rest in
    let number = number_at (lines (field ∷ [])) name (Some format) small (value_found (field ∷ []) name (Some (decimal format)) lawful refl) in
    ap (format_at limits) parts
    ∙ rw (block_of_lines 0 (field ∷ []) limits.headers rest lawful refl fits, number, le-leb 2 format low, le-leb format 3 high) refl
  where
    one_line : (a rest : List ℕ) → (a ++ 10 ∷ []) ++ rest ≡ (a ++ []) ++ 10 ∷ rest
    one_line a rest = simp (append_assoc, append-nil) refl

-- ---- all records

end_read : (limits : Limits) (texts : Texts) (empty_lines : ℕ) → empty_lines ≤ limits.headers
    → record_at limits texts (replicate empty_lines 10 ++ []) ≡ Ok (None, [])
unfolding record_at
end_read limits texts empty_lines fits =
    rw (block_none empty_lines limits.headers fits) refl

kept_so : (limits : Limits) (texts : Texts) (records : List Record) (empty_lines : ℕ) → header_room ≤ limits.headers → empty_lines ≤ 2
    → All (IsWritableRecord limits texts) records
    → IsReadAs limits texts (replicate empty_lines 10 ++ flat_map written_record records) (map (kept_record texts) records)
kept_so limits texts [] empty_lines room few h = end_read limits texts empty_lines (omega (arith, room, few))
kept_so limits texts (r ∷ records) empty_lines room few h =
    one r (All-head (IsWritableRecord limits texts) r records h)
    (λ lines enough. kept_so limits texts records lines room enough (All-tail (IsWritableRecord limits texts) r records h))
  where
    one : (r : Record) → IsWritableRecord limits texts r
        → ((lines : ℕ) → lines ≤ 2
        → IsReadAs limits texts (replicate lines 10 ++ flat_map written_record records) (map (kept_record texts) records))
        → IsReadAs limits texts (replicate empty_lines 10 ++ (written_record r ++ flat_map written_record records))
        (kept_record texts r ∷ map (kept_record texts) records)
    one Other lawful more = absurd lawful
    one (Revision rev) lawful more = (
      10 ∷ flat_map written_record records,
      revision_read limits texts rev empty_lines (flat_map written_record records) lawful room few,
      more 1 (omega arith),
    )
    one (Node node) lawful more = (
      10 ∷ 10 ∷ flat_map written_record records,
      node_read limits texts node empty_lines (flat_map written_record records) lawful few,
      more 2 (omega arith),
    )

whole_records : (records : List Record) → map (kept_record Whole) records ≡ records
whole_records [] = refl
whole_records (r ∷ records) = ap₂ (λ (x : Record) (l : List Record). x ∷ l) (whole_record r) (whole_records records)

pub kept_ones : (texts : Texts) (records : List Record) → map (kept_record texts) records ≡ kept_records texts records
kept_ones Whole records = whole_records records
kept_ones Sha1 records = refl
kept_ones Md5 records = refl

pub records_read : (limits : Limits) (texts : Texts) (records : List Record) → header_room ≤ limits.headers
    → All (IsWritableRecord limits texts) records
    → IsReadAs limits texts (flat_map written_record records) (kept_records texts records)
records_read limits texts records room h =
    subst (IsReadAs limits texts (flat_map written_record records)) (kept_ones texts records)
    (kept_so limits texts records 0 room (omega arith) h)
