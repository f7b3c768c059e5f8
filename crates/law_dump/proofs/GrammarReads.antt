-- The records of the grammar are read, within the limits, and so no bytes are two of them.
use Rattle.std.proofs.Common.{◌≡◌, ℕ, ◌+◌, ◌≤◌, Bool, true, false, ◌||◌, List, [], ◌∷◌, ◌++◌, length, Option, Some, None, Ok, option_map, unwrap_or, is_some, IfSome, refl, sym, ap, ap₂, ◌∙◌, arith, codes, true≢false}
use Rattle.std.specs.List.{AllByRecursion}
use Rattle.std.proofs.lemmas.Bool.{eq-eqb}
use Rattle.std.proofs.lemmas.Option.{same_Some}
use Rattle.svn_dump.specs.declared.record.NodeRecord.{NodeRecord}
use Rattle.svn_dump.specs.declared.record.PropSection.{PropSection}
use Rattle.svn_dump.specs.declared.record.Record.{Record}
use Rattle.svn_dump.specs.declared.record.Record.TheVariants.{Other, Revision, Node}
use Rattle.svn_dump.specs.declared.record.TextSection.{TextSection}
use Rattle.svn_dump.specs.declared.sections.Limits.{Limits}
use Rattle.svn_dump.specs.declared.sections.Texts.{Texts}
use Rattle.svn_dump.specs.declared.sections.Texts.TheVariants.{Whole, Sha1, Md5}
use Rattle.svn_dump.specs.Reading.{◌>>=◌}
use Rattle.svn_dump.specs.Blocks.{block_at}
use Rattle.svn_dump.specs.Fields.{number_value}
use Rattle.svn_dump.specs.Shapes.{lengths_of, sums_of, agreeing}
use Rattle.svn_dump.specs.Sections.{if_given, sized_props_at, sized_text_at}
use Rattle.svn_dump.specs.Records.{is_given, subject_of, node_at, passed_at, headed_at, record_at}
use Rattle.svn_dump.specs.Written.{text_bytes}
use Rattle.law_dump.specs.Laws.{CanKeep, NodeFits, IsWithin, kept_section, kept_text, kept_node, kept_record}
use Rattle.law_dump.specs.Grammar.{Header, IsHeader, begins_blank, ended, header_lines, Sums, AreSums, IsPropsOf, IsTextOf, IsGiven, AreLengths, IsNode, IsAbout, IsRecord}
use Rattle.law_dump.proofs.Choices.{read_same}
use Rattle.law_dump.proofs.GrammarHeaders.{are_headers_of, block_given}
use Rattle.law_dump.proofs.GrammarGiven.{number_said, sum_said, flag_said, given_said, path_said, kind_said, action_said, source_said}
use Rattle.law_dump.proofs.GrammarSections.{section_given, sections_skipped, sized_props_given, sized_text_given}
use Rattle.law_dump.proofs.GrammarRecords.{length_of_own}
use Rattle.law_dump.proofs.RecordReads.{record_of_block, headed_revision, headed_node, node_of_values, lengths_of_values, base_sums_of_values, shape_of_values, node_of_sections}

module _ (headers : List Header) (are : AllByRecursion IsHeader headers) where
  -- ---- lengths

  lengths_said : (prop_bytes text_bytes : Option (List ℕ)) → AreLengths headers prop_bytes text_bytes
      → lengths_of (header_lines headers) ≡ Ok (record { props = option_map length prop_bytes; text = option_map length text_bytes })
  lengths_said prop_bytes text_bytes h =
      lengths_of_values (header_lines headers) (option_map length prop_bytes) (option_map length text_bytes) h.both
      (number_said headers are (codes "Prop-content-length") (option_map length prop_bytes) h.props)
      (number_said headers are (codes "Text-content-length") (option_map length text_bytes) h.text)
      (number_said headers are (codes "Content-length") h.both h.both_is) (by h.both h.agree)
    where
      by : (both : Option ℕ) → IfSome both (λ n. n ≡ length (unwrap_or prop_bytes []) + length (unwrap_or text_bytes []))
          → agreeing (option_map length prop_bytes) (option_map length text_bytes) both
          ≡ Ok (record { props = option_map length prop_bytes; text = option_map length text_bytes })
      by None e = refl
      by (Some n) e =
          rw (eq-eqb (unwrap_or (option_map length prop_bytes) 0 + unwrap_or (option_map length text_bytes) 0) n
          (ap₂ (λ (x y : ℕ). x + y) (length_of_own prop_bytes) (length_of_own text_bytes) ∙ sym e)) refl

  passed_given : (what : Record) (prop_bytes text_bytes : Option (List ℕ)) (rest : List ℕ) → AreLengths headers prop_bytes text_bytes
      → passed_at what (header_lines headers) (unwrap_or prop_bytes [] ++ (unwrap_or text_bytes [] ++ rest)) ≡ Ok (what, rest)
  passed_given what prop_bytes text_bytes rest h =
      rw (lengths_said prop_bytes text_bytes h, sections_skipped prop_bytes text_bytes rest) refl

  -- ---- nodes

  sums_said : (sums : Sums) → AreSums headers sums → sums_of (header_lines headers) ≡ Ok (record { md5 = sums.md5; sha1 = sums.sha1 })
  sums_said sums h =
      rw (
        sum_said headers are 16 (codes "Text-content-md5") h.new h.new_is,
        sum_said headers are 16 (codes "Text-content-checksum") h.old h.old_is,
        sum_said headers are 20 (codes "Text-content-sha1") sums.sha1 h.sha1_is,
        h.md5_is,
      ) refl

  node_given : (limits : Limits) (texts : Texts) (prop_bytes text_own : Option (List ℕ)) (node : NodeRecord) (rest : List ℕ)
      → AreLengths headers prop_bytes text_own → IsNode headers prop_bytes text_own node → NodeFits limits texts prop_bytes (Node node)
      → node_at limits texts (header_lines headers) (unwrap_or prop_bytes [] ++ (unwrap_or text_own [] ++ rest))
      ≡ Ok (Node (kept_node texts node), rest)
  node_given limits texts prop_bytes text_own node rest lengths h fits =
      let block = header_lines headers in
      let props = option_map length prop_bytes in
      let text = option_map length text_own in
      let mid = unwrap_or text_own [] ++ rest in
      node_of_sections limits texts block (unwrap_or prop_bytes [] ++ mid) mid rest
      (record { path = node.path; kind = node.kind; action = node.action; source = node.source; props = None; text = None }) props text
      h.sums.md5 h.sums.sha1 h.base.md5 h.base.sha1 h.changes_props h.changes_text node.props (kept_text texts node.text)
      (node_of_values block node.path node.kind node.action node.source (path_said headers are node.path h.path)
      (kind_said headers are node.kind h.kind) (action_said headers are node.action h.action) (source_said headers are node.source h.source))
      (shape_of_values block props text h.sums.md5 h.sums.sha1 h.base.md5 h.base.sha1 h.changes_props h.changes_text
      (lengths_said prop_bytes text_own lengths) (sums_said h.sums h.sums_are)
      (base_sums_of_values block h.base.md5 h.base.sha1 (sum_said headers are 16 (codes "Text-delta-base-md5") h.base.md5 h.base_are.md5_is)
      (sum_said headers are 20 (codes "Text-delta-base-sha1") h.base.sha1 h.base_are.sha1_is))
      (flag_said headers are (codes "Prop-delta") h.changes_props h.prop_delta)
      (flag_said headers are (codes "Text-delta") h.changes_text h.text_delta))
      (section_given (sized_props_at h.changes_props limits.props) prop_bytes node.props mid (props_read prop_bytes node.props h.props_are fits.0))
      (text_read texts text_own node.text h.text_is fits.1)
    where
      props_read : (own : Option (List ℕ)) (o : Option PropSection) → IsGiven (IsPropsOf h.changes_props) own o
          → IfSome own (λ bytes. length bytes ≤ limits.props)
          → IsGiven (λ bytes x. sized_props_at h.changes_props limits.props (length bytes) (bytes ++ (unwrap_or text_own [] ++ rest))
          ≡ Ok (x, unwrap_or text_own [] ++ rest)) own o
      props_read None None is fit = tt
      props_read None (Some x) is fit = is
      props_read (Some bytes) None is fit = is
      props_read (Some bytes) (Some x) is fit = sized_props_given h.changes_props limits.props bytes x (unwrap_or text_own [] ++ rest) is fit

      kept_some : (texts : Texts) (t : TextSection) → Some (kept_section texts t) ≡ kept_text texts (Some t)
      kept_some Whole t = refl
      kept_some Sha1 t = refl
      kept_some Md5 t = refl

      text_read : (texts : Texts) (own : Option (List ℕ)) (o : Option TextSection) → IsGiven (IsTextOf h.changes_text h.base h.sums) own o
          → IfSome o (CanKeep texts limits.text)
          → if_given (option_map length own) (sized_text_at (record {
            lengths = record { props = option_map length prop_bytes; text = option_map length text_own };
            sums = record { md5 = h.sums.md5; sha1 = h.sums.sha1 };
            base_sums = record { md5 = h.base.md5; sha1 = h.base.sha1 };
            changes_props = h.changes_props;
            changes_text = h.changes_text;
          }) texts limits.text) (unwrap_or own [] ++ rest) ≡ Ok (kept_text texts o, rest)
      text_read Whole None None is fit = refl
      text_read Sha1 None None is fit = refl
      text_read Md5 None None is fit = refl
      text_read texts None (Some t) is fit = absurd is
      text_read texts (Some own) None is fit = absurd is
      text_read texts (Some own) (Some t) is fit =
          ap (λ r. r >>= λ read. Ok (Some read.0, read.1))
          (sized_text_given texts (option_map length prop_bytes) (option_map length text_own) h.changes_props h.changes_text h.base h.sums limits.text own
          t rest is fit)
          ∙ ap (λ (o : Option TextSection). Ok (o, rest)) (kept_some texts t)

  -- ---- records

  other_given : (limits : Limits) (texts : Texts) (after : List ℕ) (uuid format : Bool)
      → number_value (header_lines headers) (codes "Revision-number") ≡ Ok None → is_given (header_lines headers) (codes "Node-path") ≡ Ok false
      → is_given (header_lines headers) (codes "UUID") ≡ Ok uuid
      → is_given (header_lines headers) (codes "SVN-fs-dump-format-version") ≡ Ok format → (uuid || format) ≡ true
      → headed_at limits texts (header_lines headers) after ≡ passed_at Other (header_lines headers) after
  unfolding subject_of
  other_given limits texts after uuid format number path e f some = rw (are_headers_of headers are, number, path, e, f, some) refl

  headed_given : (limits : Limits) (texts : Texts) (what : Record) (prop_bytes text_own : Option (List ℕ)) (rest : List ℕ)
      → AreLengths headers prop_bytes text_own → IsAbout headers prop_bytes text_own what → NodeFits limits texts prop_bytes what
      → headed_at limits texts (header_lines headers) (unwrap_or prop_bytes [] ++ (unwrap_or text_own [] ++ rest)) ≡ Ok (kept_record texts what, rest)
  headed_given limits texts (Revision rev) prop_bytes text_own rest lengths h fits =
      headed_revision limits texts (header_lines headers) (unwrap_or prop_bytes [] ++ (unwrap_or text_own [] ++ rest)) rev (are_headers_of headers are)
      (number_said headers are (codes "Revision-number") (Some rev) h) ∙ passed_given (Revision rev) prop_bytes text_own rest lengths
  headed_given limits texts (Node node) prop_bytes text_own rest lengths h fits =
      let path = h.3.path in
      headed_node limits texts (header_lines headers) (unwrap_or prop_bytes [] ++ (unwrap_or text_own [] ++ rest)) (is_some h.1.0) (is_some h.2.0)
      (are_headers_of headers are) (number_said headers are (codes "Revision-number") None h.0)
      (given_said headers are (codes "Node-path") (Some path.0) path.1) (given_said headers are (codes "UUID") h.1.0 h.1.1)
      (given_said headers are (codes "SVN-fs-dump-format-version") h.2.0 h.2.1)
      ∙ node_given limits texts prop_bytes text_own node rest lengths h.3 fits
  headed_given limits texts Other prop_bytes text_own rest lengths h fits =
      other_given limits texts (unwrap_or prop_bytes [] ++ (unwrap_or text_own [] ++ rest)) (is_some h.2.0) (is_some h.3.0)
      (number_said headers are (codes "Revision-number") None h.0) (given_said headers are (codes "Node-path") None h.1)
      (given_said headers are (codes "UUID") h.2.0 h.2.1) (given_said headers are (codes "SVN-fs-dump-format-version") h.3.0 h.3.1) h.4
      ∙ passed_given Other prop_bytes text_own rest lengths

pub record_given : (limits : Limits) (texts : Texts) (bytes : List ℕ) (what : Record) (rest : List ℕ) (r : IsRecord bytes what rest) → IsWithin limits texts r
    → record_at limits texts bytes ≡ Ok (Some (kept_record texts what), rest)
record_given limits texts bytes what rest r within =
    by (header_lines r.headers)
    (block_given limits.headers bytes r.headers (unwrap_or r.prop_bytes [] ++ (unwrap_or r.text_bytes [] ++ rest)) r.block within.headers_fit)
    r.block.begins
    (headed_given r.headers r.block.headers_are limits texts what r.prop_bytes r.text_bytes rest r.lengths r.about within.node_fits)
  where
    by : {after : List ℕ} (block : List ℕ) → block_at false limits.headers bytes ≡ Ok (block, after) → begins_blank block ≡ false
        → headed_at limits texts block after ≡ Ok (kept_record texts what, rest)
        → record_at limits texts bytes ≡ Ok (Some (kept_record texts what), rest)
    by [] e begins k = absurd (true≢false begins)
    by {after = after} (b ∷ block) e begins k = record_of_block limits texts bytes b block after (kept_record texts what) rest e k

-- ---- no bytes are two records

pub headers_len : {bytes : List ℕ} {what : Record} {rest : List ℕ} → IsRecord bytes what rest → ℕ
headers_len r = length (ended r.block.blank) + length (header_lines r.headers)

abbrev pub text_len : Record → ℕ
text_len Other = 0
text_len (Revision rev) = 0
text_len (Node node) = length (unwrap_or (option_map text_bytes node.text) [])

pub all_within : (limits : Limits) (bytes : List ℕ) (what : Record) (rest : List ℕ) (r : IsRecord bytes what rest) → headers_len r ≤ limits.headers
    → length (unwrap_or r.prop_bytes []) ≤ limits.props → text_len what ≤ limits.text → IsWithin limits Whole r
unfolding headers_len
all_within limits bytes what rest r headers props text = record { headers_fit = headers; node_fits = by what text }
  where
    props_fit : (own : Option (List ℕ)) → length (unwrap_or own []) ≤ limits.props → IfSome own (λ bytes. length bytes ≤ limits.props)
    props_fit None few = tt
    props_fit (Some bytes) few = few

    text_fit : (o : Option TextSection) → length (unwrap_or (option_map text_bytes o) []) ≤ limits.text → IfSome o (CanKeep Whole limits.text)
    text_fit None few = tt
    text_fit (Some t) few = few

    by : (what : Record) → text_len what ≤ limits.text → NodeFits limits Whole r.prop_bytes what
    by Other few = tt
    by (Revision rev) few = tt
    by (Node node) few = (props_fit r.prop_bytes props, text_fit node.text few)

pub whole_record : (what : Record) → kept_record Whole what ≡ what
whole_record Other = refl
whole_record (Revision rev) = refl
whole_record (Node node) = refl

pub one_record : (bytes : List ℕ) (a b : Record) (rest after : List ℕ) → IsRecord bytes a rest → IsRecord bytes b after → (a ≡ b) × (rest ≡ after)
one_record bytes a b rest after x y =
    let limits : Limits = record {
      headers = headers_len x + headers_len y;
      props = length (unwrap_or x.prop_bytes []) + length (unwrap_or y.prop_bytes []);
      text = text_len a + text_len b;
    } in
    let first = record_given limits Whole bytes a rest x (all_within limits bytes a rest x (omega arith) (omega arith) (omega arith)) in
    let second = record_given limits Whole bytes b after y (all_within limits bytes b after y (omega arith) (omega arith) (omega arith)) in
    let same = read_same (Some (kept_record Whole a), rest) (Some (kept_record Whole b), after) (sym first ∙ second) in
    (sym (whole_record a) ∙ same_Some (kept_record Whole a) (kept_record Whole b) same.0 ∙ whole_record b, same.1)
