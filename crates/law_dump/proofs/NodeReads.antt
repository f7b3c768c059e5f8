-- Nodes, read as they were written.
use Rattle.std.proofs.Common.{◌≡◌, ℕ, ◌+◌, ◌^◌, ◌<◌, ◌≤◌, Bool, false, List, [], ◌∷◌, ◌++◌, length, replicate, Option, Some, None, Ok, option_map, unwrap_or, IfSome, refl, ap, ◌∙◌, arith, append_assoc, codes, decimal}
use Rattle.hex.specs.Hex.{encode_lower}
use Rattle.md5.proofs.StandardFacts.{length-md5}
use Rattle.svn_types.specs.declared.kind.Kind.{Kind}
use Rattle.svn_types.specs.declared.kind.Kind.TheVariants.{File, Directory}
use Rattle.svn_types.specs.PathTexts.{path_text}
use Rattle.svn_dump.specs.declared.record.Action.{Action}
use Rattle.svn_dump.specs.declared.record.Action.TheVariants.{Add, Change, Delete, Replace}
use Rattle.svn_dump.specs.declared.record.CopySource.{CopySource}
use Rattle.svn_dump.specs.declared.record.NodeRecord.{NodeRecord}
use Rattle.svn_dump.specs.declared.record.PropSection.{PropSection}
use Rattle.svn_dump.specs.declared.record.Record.TheVariants.{Node}
use Rattle.svn_dump.specs.declared.record.TextSection.{TextSection}
use Rattle.svn_dump.specs.declared.record.TextSection.TheVariants as text
use Rattle.svn_dump.specs.declared.sections.Limits.{Limits}
use Rattle.svn_dump.specs.declared.sections.Texts.{Texts}
use Rattle.svn_dump.specs.declared.sections.Texts.TheVariants.{Whole, Sha1, Md5}
use Rattle.svn_dump.specs.Reading.{◌>>=◌}
use Rattle.svn_dump.specs.Headers.{header_value}
use Rattle.svn_dump.specs.Fields.{path_of, kind_of, action_of, source_value, as_number}
use Rattle.svn_dump.specs.Shapes.{shape_of}
use Rattle.svn_dump.specs.Sections.{if_given, sized_props_at, sized_text_at}
use Rattle.svn_dump.specs.Records.{node_of, node_at, headed_at, record_at}
use Rattle.svn_dump.specs.Written.{prop_section, text_section, action_word, headers_of, written}
use Rattle.law_dump.specs.Laws.{IsPath, IsSource, IsPropSection, IsTextSection, IsSum, IsWritable, CanKeep, kept_text, kept_node}
use Rattle.law_dump.proofs.HeaderFields.{AreFields, lines, lines_are_headers, given, found}
use Rattle.law_dump.proofs.HeaderBlocks.{block_of_lines}
use Rattle.law_dump.proofs.HexSums.{IsBytes-md5, IsBytes-sha1, length-sha1}
use Rattle.law_dump.proofs.PathFields.{path_of_path_text}
use Rattle.law_dump.proofs.PropSections.{sized_section_read}
use Rattle.law_dump.proofs.TextSections.{sized_text_read}
use Rattle.law_dump.proofs.NodeFields.{kind_word, flag, changes_props, changes_text, md5_given, sha1_given, base_md5_given, base_sha1_given, both_lengths, both_small, node_fields, node_fields_lawful, headers_are_lines}
use Rattle.law_dump.proofs.FieldValues.{value_found, given_at, number_at, sum_at, flag_at, lengths_agree}
use Rattle.law_dump.proofs.RecordReads.{record_of_block, headed_node, node_of_values, lengths_of_values, sums_of_values, base_sums_of_values, shape_of_values, node_of_sections}

-- ---- what the node is

kind_read : (kind : Option Kind) → kind_of (option_map kind_word kind) ≡ Ok kind
kind_read None = refl
kind_read (Some File) = refl
kind_read (Some Directory) = refl

action_read : (action : Action) → action_of (Some (action_word action)) ≡ Ok action
action_read Add = refl
action_read Change = refl
action_read Delete = refl
action_read Replace = refl

source_read : (block : List ℕ) (source : Option CopySource) → IfSome source IsSource
    → header_value block (codes "Node-copyfrom-rev") ≡ Ok (option_map (λ (s : CopySource). decimal s.rev) source)
    → header_value block (codes "Node-copyfrom-path") ≡ Ok (option_map (λ (s : CopySource). path_text s.path) source)
    → source_value block ≡ Ok source
source_read block None h e f = rw (ap (λ r. r >>= as_number) e, f) refl
source_read block (Some source) h e f =
    rw (number_at block (codes "Node-copyfrom-rev") (Some source.rev) h.rev e, f, path_of_path_text source.path h.path) refl

-- the checksums that are written are so long
record AreSums (section : Option TextSection) : Type 0 where
  pub md5 : IfSome (md5_given section) (IsSum 16)
  pub sha1 : IfSome (sha1_given section) (IsSum 20)
  pub base_md5 : IfSome (base_md5_given section) (IsSum 16)
  pub base_sha1 : IfSome (base_sha1_given section) (IsSum 20)

module _ (node : NodeRecord) (props text : Option ℕ) (lawful : AreFields (node_fields node props text)) where
  header : (name : List ℕ) (value : Option (List ℕ)) → found name (node_fields node props text) ≡ given value ++ []
      → header_value (lines (node_fields node props text)) name ≡ Ok value
  header name value e = value_found (node_fields node props text) name value lawful e

  node_of_lines : IsPath node.path → IfSome node.source IsSource → node_of (lines (node_fields node props text))
      ≡ Ok (record { path = node.path; kind = node.kind; action = node.action; source = node.source; props = None; text = None })
  node_of_lines path source =
      let fields = node_fields node props text in
      node_of_values (lines fields) node.path node.kind node.action node.source
      (ap (λ r. r >>= λ value. path_of (unwrap_or value [])) (header (codes "Node-path") (Some (path_text node.path)) refl)
      ∙ path_of_path_text node.path path)
      (ap (λ r. r >>= kind_of) (header (codes "Node-kind") (option_map kind_word node.kind) refl) ∙ kind_read node.kind)
      (ap (λ r. r >>= action_of) (header (codes "Node-action") (Some (action_word node.action)) refl)
      ∙ action_read node.action)
      (source_read (lines fields) node.source source
      (header (codes "Node-copyfrom-rev") (option_map (λ (s : CopySource). decimal s.rev) node.source) refl)
      (header (codes "Node-copyfrom-path") (option_map (λ (s : CopySource). path_text s.path) node.source) refl))

  shape_of_lines : unwrap_or props 0 + unwrap_or text 0 < 2 ^ 64 → AreSums node.text → shape_of (lines (node_fields node props text))
      ≡ Ok (record {
        lengths = record { props = props; text = text };
        sums = record { md5 = md5_given node.text; sha1 = sha1_given node.text };
        base_sums = record { md5 = base_md5_given node.text; sha1 = base_sha1_given node.text };
        changes_props = changes_props node.props;
        changes_text = changes_text node.text;
      })
  shape_of_lines small sums =
      let fields = node_fields node props text in
      let block = lines fields in
      let both = both_lengths props text in
      shape_of_values block props text (md5_given node.text) (sha1_given node.text) (base_md5_given node.text)
      (base_sha1_given node.text) (changes_props node.props) (changes_text node.text)
      (lengths_of_values block props text both
      (number_at block (codes "Prop-content-length") props (omega (arith, small))
      (header (codes "Prop-content-length") (option_map decimal props) refl))
      (number_at block (codes "Text-content-length") text (omega (arith, small))
      (header (codes "Text-content-length") (option_map decimal text) refl))
      (number_at block (codes "Content-length") both (both_small props text small)
      (header (codes "Content-length") (option_map decimal both) refl))
      (lengths_agree props text))
      (sums_of_values block (md5_given node.text) (sha1_given node.text)
      (sum_at 16 block (codes "Text-content-md5") (md5_given node.text) sums.md5
      (header (codes "Text-content-md5") (option_map encode_lower (md5_given node.text)) refl))
      (sum_at 16 block (codes "Text-content-checksum") None tt (header (codes "Text-content-checksum") None refl))
      (sum_at 20 block (codes "Text-content-sha1") (sha1_given node.text) sums.sha1
      (header (codes "Text-content-sha1") (option_map encode_lower (sha1_given node.text)) refl)))
      (base_sums_of_values block (base_md5_given node.text) (base_sha1_given node.text)
      (sum_at 16 block (codes "Text-delta-base-md5") (base_md5_given node.text) sums.base_md5
      (header (codes "Text-delta-base-md5") (option_map encode_lower (base_md5_given node.text)) refl))
      (sum_at 20 block (codes "Text-delta-base-sha1") (base_sha1_given node.text) sums.base_sha1
      (header (codes "Text-delta-base-sha1") (option_map encode_lower (base_sha1_given node.text)) refl)))
      (flag_at block (codes "Prop-delta") (changes_props node.props)
      (header (codes "Prop-delta") (flag (changes_props node.props)) refl))
      (flag_at block (codes "Text-delta") (changes_text node.text)
      (header (codes "Text-delta") (flag (changes_text node.text)) refl))

  headed_lines : (limits : Limits) (texts : Texts) (after : List ℕ) → headed_at limits texts (lines (node_fields node props text)) after
      ≡ node_at limits texts (lines (node_fields node props text)) after
  headed_lines limits texts after =
      let fields = node_fields node props text in
      let block = lines fields in
      headed_node limits texts block after false false (lines_are_headers fields lawful)
      (ap (λ r. r >>= as_number) (header (codes "Revision-number") None refl))
      (given_at block (codes "Node-path") (Some (path_text node.path))
      (header (codes "Node-path") (Some (path_text node.path)) refl))
      (given_at block (codes "UUID") None (header (codes "UUID") None refl))
      (given_at block (codes "SVN-fs-dump-format-version") None (header (codes "SVN-fs-dump-format-version") None refl))

-- ---- its sections

sums_lawful : (section : Option TextSection) → IfSome section IsTextSection → AreSums section
sums_lawful None h = record { md5 = tt; sha1 = tt; base_md5 = tt; base_sha1 = tt }
sums_lawful (Some (text.Whole bytes)) h = record {
  md5 = (length-md5 bytes, IsBytes-md5 bytes);
  sha1 = (length-sha1 bytes, IsBytes-sha1 bytes);
  base_md5 = tt;
  base_sha1 = tt;
}
sums_lawful (Some (text.Delta delta)) h = record { md5 = h.2; sha1 = h.3; base_md5 = h.0; base_sha1 = h.1 }

len_or_none : (o : Option (List ℕ)) → unwrap_or (option_map length o) 0 ≡ length (unwrap_or o [])
len_or_none None = refl
len_or_none (Some bytes) = refl

props_read : (section : Option PropSection) (limit : ℕ) (rest : List ℕ) → IfSome section IsPropSection
    → length (unwrap_or (prop_section section) []) ≤ limit → length (unwrap_or (prop_section section) []) < 2 ^ 64
    → if_given (option_map length (prop_section section)) (sized_props_at (changes_props section) limit)
    (unwrap_or (prop_section section) [] ++ rest) ≡ Ok (section, rest)
props_read None limit rest h fits small = refl
props_read (Some section) limit rest h fits small =
    ap (λ r. r >>= λ read. Ok (Some read.0, read.1)) (sized_section_read section limit rest h fits small)

text_read : (texts : Texts) (section : Option TextSection) (props text : Option ℕ) (delta : Bool) (limit : ℕ) (rest : List ℕ)
    → IfSome section (CanKeep texts limit)
    → if_given (option_map length (text_section section))
    (sized_text_at (record {
      lengths = record { props = props; text = text };
      sums = record { md5 = md5_given section; sha1 = sha1_given section };
      base_sums = record { md5 = base_md5_given section; sha1 = base_sha1_given section };
      changes_props = delta;
      changes_text = changes_text section;
    }) texts limit) (unwrap_or (text_section section) [] ++ rest)
    ≡ Ok (kept_text texts section, rest)
text_read Whole None props text delta limit rest fits = refl
text_read Sha1 None props text delta limit rest fits = refl
text_read Md5 None props text delta limit rest fits = refl
text_read Whole (Some section) props text delta limit rest fits =
    ap (λ r. r >>= λ read. Ok (Some read.0, read.1)) (sized_text_read Whole section props text delta limit rest fits)
text_read Sha1 (Some section) props text delta limit rest fits =
    ap (λ r. r >>= λ read. Ok (Some read.0, read.1)) (sized_text_read Sha1 section props text delta limit rest fits)
text_read Md5 (Some section) props text delta limit rest fits =
    ap (λ r. r >>= λ read. Ok (Some read.0, read.1)) (sized_text_read Md5 section props text delta limit rest fits)

-- ---- the record

-- the record, cut after its headers
record_parts : (headers props text end rest : List ℕ) → ((((headers ++ 10 ∷ []) ++ props) ++ text) ++ end) ++ rest
    ≡ headers ++ 10 ∷ (props ++ (text ++ (end ++ rest)))
record_parts headers props text end rest = simp append_assoc refl

pub node_read : (limits : Limits) (texts : Texts) (node : NodeRecord) (empty_lines : ℕ) (rest : List ℕ) → IsWritable limits texts node
    → empty_lines ≤ 2
    → record_at limits texts (replicate empty_lines 10 ++ (written node ++ rest)) ≡ Ok (Some (Node (kept_node texts node)), 10 ∷ 10 ∷ rest)
node_read limits texts node empty_lines rest h few =
    let props = option_map length (prop_section node.props) in
    let text = option_map length (text_section node.text) in
    let fields = node_fields node props text in
    let same = headers_are_lines node props text in
    let small : unwrap_or props 0 + unwrap_or text 0 < 2 ^ 64 =
    omega (arith, h.lengths, len_or_none (prop_section node.props), len_or_none (text_section node.text)) in
    let lawful = node_fields_lawful node props text h.lawful.path h.lawful.source small in
    let sums = sums_lawful node.text h.lawful.text in
    let mid = unwrap_or (text_section node.text) [] ++ (10 ∷ 10 ∷ rest) in
    let after = unwrap_or (prop_section node.props) [] ++ mid in
    let parts : written node ++ rest ≡ lines fields ++ 10 ∷ after =
    record_parts (headers_of node) (unwrap_or (prop_section node.props) []) (unwrap_or (text_section node.text) []) (10 ∷ 10 ∷ []) rest
    ∙ ap (λ (l : List ℕ). l ++ 10 ∷ after) same in
    let fits : empty_lines + length (lines fields) ≤ limits.headers = omega (arith, h.headers_fit, ap length same, few) in
    let whole = node_of_sections limits texts (lines fields) after mid (10 ∷ 10 ∷ rest)
    (record { path = node.path; kind = node.kind; action = node.action; source = node.source; props = None; text = None }) props text
    (md5_given node.text) (sha1_given node.text) (base_md5_given node.text) (base_sha1_given node.text) (changes_props node.props)
    (changes_text node.text) node.props (kept_text texts node.text)
    (node_of_lines node props text lawful h.lawful.path h.lawful.source) (shape_of_lines node props text lawful small sums)
    (props_read node.props limits.props mid h.lawful.props h.props_fit (omega (arith, h.lengths)))
    (text_read texts node.text props text (changes_props node.props) limits.text (10 ∷ 10 ∷ rest) h.text_fits) in
    ap (λ (l : List ℕ). record_at limits texts (replicate empty_lines 10 ++ l)) parts
    ∙ record_of_block limits texts (replicate empty_lines 10 ++ (lines fields ++ 10 ∷ after)) _ _ after (Node (kept_node texts node))
    (10 ∷ 10 ∷ rest)
    (block_of_lines empty_lines fields limits.headers after lawful refl fits) (headed_lines node props text lawful limits texts after ∙ whole)
