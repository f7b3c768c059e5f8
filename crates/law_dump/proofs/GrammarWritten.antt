-- Records that were written are by the grammar.
use Rattle.std.proofs.Common.{◌≡◌, ℕ, ◌+◌, ◌^◌, ◌<◌, ◌≤◌, List, [], ◌∷◌, ◌++◌, length, Option, Some, None, Ok, All, unwrap_or, IfSome, refl, sym, ap, subst, ◌∙◌, arith}
use Rattle.std.specs.List.{AllByRecursion, flat_map}
use Rattle.svn_lists.proofs.Every.{all_from_places}
use Rattle.svn_dump.specs.declared.record.NodeRecord.{NodeRecord}
use Rattle.svn_dump.specs.declared.record.Record.{Record}
use Rattle.svn_dump.specs.declared.record.Record.TheVariants.{Other, Revision, Node}
use Rattle.svn_dump.specs.declared.record.TextSection.{TextSection}
use Rattle.svn_dump.specs.declared.sections.Limits.{Limits}
use Rattle.svn_dump.specs.declared.sections.Texts.TheVariants.{Whole}
use Rattle.svn_dump.specs.Records.{record_at}
use Rattle.svn_dump.specs.Written.{text_section, headers_of, written, revision_record, format_record}
use Rattle.law_dump.specs.Laws.{IsNodeRecord, IsLawfulRecord, CanKeep, props_len, text_len, header_room, kept_record, written_record}
use Rattle.law_dump.specs.Grammar.{IsBlank, IsRecord, AreRecords, IsDumpOf}
use Rattle.law_dump.proofs.GrammarFormat.{format_found}
use Rattle.law_dump.proofs.GrammarRecords.{record_found}
use Rattle.law_dump.proofs.GrammarReads.{whole_record}
use Rattle.law_dump.proofs.NodeReads.{node_read}
use Rattle.law_dump.proofs.DumpReads.{revision_read, format_read}

-- what is read as a whole is a record of the grammar
of_reading : (limits : Limits) (bytes : List ℕ) (what : Record) (rest : List ℕ)
    → record_at limits Whole bytes ≡ Ok (Some (kept_record Whole what), rest) → IsRecord bytes what rest
of_reading limits bytes what rest h =
    let found = record_found limits Whole bytes (kept_record Whole what) rest h in
    subst (λ (r : Record). IsRecord bytes r rest) (sym (sym (whole_record what) ∙ found.what_is ∙ whole_record found.whole)) found.is

node_written : (node : NodeRecord) (rest : List ℕ) → IsNodeRecord node → props_len node + text_len node < 2 ^ 64
    → IsRecord (written node ++ rest) (Node node) (10 ∷ 10 ∷ rest)
node_written node rest lawful small =
    let limits : Limits = record { headers = length (headers_of node) + 2; props = props_len node; text = text_len node } in
    of_reading limits (written node ++ rest) (Node node) (10 ∷ 10 ∷ rest)
    (node_read limits Whole node 0 rest
    (record { lawful = lawful; headers_fit = omega arith; props_fit = omega arith; text_fits = fits node.text; lengths = small }) (omega arith))
  where
    fits : (t : Option TextSection) → IfSome t (CanKeep Whole (length (unwrap_or (text_section t) [])))
    fits None = tt
    fits (Some t) = omega arith

revision_written : (rev : ℕ) (rest : List ℕ) → rev < 2 ^ 64 → IsRecord (revision_record rev ++ rest) (Revision rev) (10 ∷ rest)
revision_written rev rest small =
    let limits : Limits = record { headers = header_room; props = 0; text = 0 } in
    of_reading limits (revision_record rev ++ rest) (Revision rev) (10 ∷ rest) (revision_read limits Whole rev 0 rest small (omega arith) (omega arith))

-- an empty line before a record or the end
empty_line : IsBlank []
empty_line = record { whole = refl; blank = refl }

line_before : (bytes : List ℕ) (records : List Record) → AreRecords bytes records → AreRecords (10 ∷ bytes) records
line_before bytes [] e = record {
  blank = [] ∷ e.blank;
  last = e.last;
  parts = ap (λ (l : List ℕ). 10 ∷ l) e.parts;
  blank_is = (empty_line, e.blank_is);
  last_is = e.last_is;
}
line_before bytes (what ∷ records) h = (
  h.0,
  record {
    headers = h.1.headers;
    prop_bytes = h.1.prop_bytes;
    text_bytes = h.1.text_bytes;
    block = record {
      blank = [] ∷ h.1.block.blank;
      parts = ap (λ (l : List ℕ). 10 ∷ l) h.1.block.parts;
      blank_is = (empty_line, h.1.block.blank_is);
      headers_are = h.1.block.headers_are;
      begins = h.1.block.begins;
    };
    lengths = h.1.lengths;
    about = h.1.about;
  },
  h.2,
)

all_written : (records : List Record) → AllByRecursion IsLawfulRecord records → AreRecords (flat_map written_record records) records
all_written [] h =
    record { blank = []; last = []; parts = refl; blank_is = tt; last_is = empty_line }
all_written (Other ∷ records) h = absurd h.0
all_written (Revision rev ∷ records) h =
    let bytes = flat_map written_record records in
    (10 ∷ bytes, revision_written rev bytes h.0, line_before bytes records (all_written records h.1))
all_written (Node node ∷ records) h =
    let bytes = flat_map written_record records in (
      10 ∷ 10 ∷ bytes,
      node_written node bytes h.0.0 h.0.1,
      line_before (10 ∷ bytes) records (line_before bytes records (all_written records h.1)),
    )

pub dump_written : (format : ℕ) (records : List Record) → 2 ≤ format → format ≤ 3 → All IsLawfulRecord records
    → IsDumpOf (format_record format ++ flat_map written_record records) format records
dump_written format records low high h =
    let bytes = flat_map written_record records in
    let limits : Limits = record { headers = header_room; props = 0; text = 0 } in
    record {
      rest = bytes;
      first = format_found limits (format_record format ++ bytes) format bytes (format_read limits format bytes low high (omega arith));
      are = all_written records (all_from_places IsLawfulRecord records h);
    }
