-- The records that are read are by the grammar.
use Rattle.std.proofs.Common.{◌≡◌, ℕ, ◌+◌, Bool, true, false, ◌||◌, List, [], ◌∷◌, ◌++◌, length, Option, Some, None, Ok, Err, option_map, unwrap_or, IfSome, refl, sym, ap, ap₂, subst, ◌∙◌, nat_eq, codes}
use Rattle.std.specs.List.{AllByRecursion}
use Rattle.std.proofs.lemmas.Bool.{eqb-true}
use Rattle.std.proofs.lemmas.Option.{none-some, same_Some}
use Rattle.svn_lists.proofs.Options.{some_value, none_from_test}
use Rattle.svn_dump.specs.declared.fault.Reason.TheVariants.{NotAHeader, UnknownRecord, Lengths as DisagreeingLengths}
use Rattle.svn_dump.specs.declared.record.NodeRecord.{NodeRecord}
use Rattle.svn_dump.specs.declared.record.PropSection.{PropSection}
use Rattle.svn_dump.specs.declared.record.Record.{Record}
use Rattle.svn_dump.specs.declared.record.Record.TheVariants.{Other, Revision, Node}
use Rattle.svn_dump.specs.declared.record.TextSection.{TextSection}
use Rattle.svn_dump.specs.declared.sections.Limits.{Limits}
use Rattle.svn_dump.specs.declared.sections.Texts.{Texts}
use Rattle.svn_dump.specs.declared.sections.Texts.TheVariants.{Whole, Sha1, Md5}
use Rattle.svn_dump.specs.Reading.{◌>>=◌}
use Rattle.svn_dump.specs.Blocks.{block_at}
use Rattle.svn_dump.specs.Headers.{header_value, are_headers}
use Rattle.svn_dump.specs.Fields.{number_value, sum_value, true_value, path_of, path_value, kind_value, action_value, source_value}
use Rattle.svn_dump.specs.Shapes.{lengths_of, sums_of, base_sums_of, shape_of, agreeing}
use Rattle.svn_dump.specs.Sections.{Read, if_given, after_sections, sized_props_at, sized_text_at, prop_section_at, text_section_at}
use Rattle.svn_dump.specs.Records.{is_given, subject_of, subject_by, node_of, node_at, passed_at, headed_at, record_after, record_at}
use Rattle.law_dump.specs.Laws.{kept_section, kept_text, kept_record}
use Rattle.law_dump.specs.Grammar.{Header, IsHeader, IsBlock, header_lines, Gives, Says, AtMostOnce, IsNumber, IsKindWord, IsActionWord, IsSourceOf, IsFlag, Sums, AreSums, AreBaseSums, IsPropsOf, IsTextOf, IsGiven, AreLengths, IsNode, IsAbout, IsRecord}
use Rattle.law_dump.proofs.Choices.{ok_first, bound_ok, err_ok, ok_same, read_same, under}
use Rattle.law_dump.proofs.GrammarHeaders.{value_gives, block_of}
use Rattle.law_dump.proofs.GrammarValues.{number_says, sum_says, flag_says, given_says, path_says, kind_says, action_says, source_says}
use Rattle.law_dump.proofs.GrammarSections.{section_read, sections_passed, sized_props_found, KeptText, sized_text_found}
use Rattle.law_dump.proofs.RecordReads.{headed_revision}

-- ---- lengths

record LengthsSay (headers : List Header) (props text : Option ℕ) : Type 0 where
  props_say : Says IsNumber headers (codes "Prop-content-length") props
  text_say : Says IsNumber headers (codes "Text-content-length") text
  both : Option ℕ
  both_say : Says IsNumber headers (codes "Content-length") both
  agree : IfSome both (λ n. n ≡ unwrap_or props 0 + unwrap_or text 0)

record Agreed (p t both props text : Option ℕ) : Type 0 where
  props_same : p ≡ props
  text_same : t ≡ text
  agree : IfSome both (λ n. n ≡ unwrap_or p 0 + unwrap_or t 0)

agreed : (p t both props text : Option ℕ) → agreeing p t both ≡ Ok (record { props = props; text = text }) → Agreed p t both props text
agreed p t None props text h =
    let same = ok_same _ _ h in
    record { props_same = under same (λ l. l.props); text_same = under same (λ l. l.text); agree = tt }
agreed p t (Some n) props text h =
    let found = ok_first (nat_eq (unwrap_or p 0 + unwrap_or t 0) n) _ DisagreeingLengths _ h in
    let same = ok_same _ _ found.1 in
    record {
      props_same = under same (λ l. l.props);
      text_same = under same (λ l. l.text);
      agree = sym (eqb-true (unwrap_or p 0 + unwrap_or t 0) n found.0);
    }

lengths_say : (headers : List Header) (props text : Option ℕ) → AllByRecursion IsHeader headers
    → lengths_of (header_lines headers) ≡ Ok (record { props = props; text = text }) → LengthsSay headers props text
lengths_say headers props text are h =
    let block = header_lines headers in
    let a = bound_ok (number_value block (codes "Prop-content-length")) _ _ h in
    let b = bound_ok (number_value block (codes "Text-content-length")) _ _ a.2 in
    let c = bound_ok (number_value block (codes "Content-length")) _ _ b.2 in
    let all = agreed a.0 b.0 c.0 props text c.2 in
    record {
      props_say = subst (Says IsNumber headers (codes "Prop-content-length")) all.props_same (number_says headers (codes "Prop-content-length") a.0 are a.1);
      text_say = subst (Says IsNumber headers (codes "Text-content-length")) all.text_same (number_says headers (codes "Text-content-length") b.0 are b.1);
      both = c.0;
      both_say = number_says headers (codes "Content-length") c.0 are c.1;
      agree =
          subst (λ (l : Option ℕ × Option ℕ). IfSome c.0 (λ n. n ≡ unwrap_or l.0 0 + unwrap_or l.1 0))
          (ap₂ (λ (x y : Option ℕ). (x, y)) all.props_same all.text_same) all.agree;
    }

pub length_of_own : (own : Option (List ℕ)) → unwrap_or (option_map length own) 0 ≡ length (unwrap_or own [])
length_of_own None = refl
length_of_own (Some bytes) = refl

are_lengths : (headers : List Header) (props text : Option ℕ) (prop_bytes text_bytes : Option (List ℕ)) → LengthsSay headers props text
    → option_map length prop_bytes ≡ props → option_map length text_bytes ≡ text → AreLengths headers prop_bytes text_bytes
are_lengths headers props text prop_bytes text_bytes say e f =
    record {
      props = subst (Says IsNumber headers (codes "Prop-content-length")) (sym e) say.props_say;
      text = subst (Says IsNumber headers (codes "Text-content-length")) (sym f) say.text_say;
      both = say.both;
      both_is = say.both_say;
      agree =
          subst (λ (l : ℕ × ℕ). IfSome say.both (λ n. n ≡ l.0 + l.1))
          (ap₂ (λ (x y : ℕ). (x, y)) (ap (λ (o : Option ℕ). unwrap_or o 0) (sym e) ∙ length_of_own prop_bytes)
          (ap (λ (o : Option ℕ). unwrap_or o 0) (sym f) ∙ length_of_own text_bytes)) say.agree;
    }

-- ---- the shape of a node's record

sums_say : (headers : List Header) (sums : Sums) → AllByRecursion IsHeader headers
    → sums_of (header_lines headers) ≡ Ok (record { md5 = sums.md5; sha1 = sums.sha1 }) → AreSums headers sums
sums_say headers sums are h =
    let block = header_lines headers in
    let a = bound_ok (sum_value 16 block (codes "Text-content-md5")) _ _ h in
    let b = bound_ok (sum_value 16 block (codes "Text-content-checksum")) _ _ a.2 in
    let c = bound_ok (sum_value 20 block (codes "Text-content-sha1")) _ _ b.2 in
    let same = ok_same _ _ c.2 in
    record {
      new = a.0;
      old = b.0;
      new_is = sum_says 16 headers (codes "Text-content-md5") a.0 are a.1;
      old_is = sum_says 16 headers (codes "Text-content-checksum") b.0 are b.1;
      md5_is = sym (under same (λ s. s.md5));
      sha1_is = sum_says 20 headers (codes "Text-content-sha1") sums.sha1 are (c.1 ∙ ap (λ (o : Option (List ℕ)). Ok o) (under same (λ s. s.sha1)));
    }

base_sums_say : (headers : List Header) (sums : Sums) → AllByRecursion IsHeader headers
    → base_sums_of (header_lines headers) ≡ Ok (record { md5 = sums.md5; sha1 = sums.sha1 }) → AreBaseSums headers sums
base_sums_say headers sums are h =
    let block = header_lines headers in
    let a = bound_ok (sum_value 16 block (codes "Text-delta-base-md5")) _ _ h in
    let b = bound_ok (sum_value 20 block (codes "Text-delta-base-sha1")) _ _ a.2 in
    let same = ok_same _ _ b.2 in
    record {
      md5_is = sum_says 16 headers (codes "Text-delta-base-md5") sums.md5 are (a.1 ∙ ap (λ (o : Option (List ℕ)). Ok o) (under same (λ s. s.md5)));
      sha1_is = sum_says 20 headers (codes "Text-delta-base-sha1") sums.sha1 are (b.1 ∙ ap (λ (o : Option (List ℕ)). Ok o) (under same (λ s. s.sha1)));
    }

record ShapeSays (headers : List Header) (props text : Option ℕ) (sums base : Sums) (changes_props changes_text : Bool) : Type 0 where
  lengths : LengthsSay headers props text
  sums_are : AreSums headers sums
  base_are : AreBaseSums headers base
  prop_delta : IsFlag headers (codes "Prop-delta") changes_props
  text_delta : IsFlag headers (codes "Text-delta") changes_text

shape_says : (headers : List Header) (props text : Option ℕ) (sums base : Sums) (changes_props changes_text : Bool) → AllByRecursion IsHeader headers
    → shape_of (header_lines headers) ≡ Ok (record {
      lengths = record { props = props; text = text };
      sums = record { md5 = sums.md5; sha1 = sums.sha1 };
      base_sums = record { md5 = base.md5; sha1 = base.sha1 };
      changes_props = changes_props;
      changes_text = changes_text;
    })
    → ShapeSays headers props text sums base changes_props changes_text
unfolding shape_of
shape_says headers props text sums base changes_props changes_text are h =
    let block = header_lines headers in
    let a = bound_ok (lengths_of block) _ _ h in
    let b = bound_ok (sums_of block) _ _ a.2 in
    let c = bound_ok (base_sums_of block) _ _ b.2 in
    let d = bound_ok (true_value block (codes "Prop-delta")) _ _ c.2 in
    let e = bound_ok (true_value block (codes "Text-delta")) _ _ d.2 in
    let same = ok_same _ _ e.2 in
    record {
      lengths = lengths_say headers props text are (a.1 ∙ under same (λ s. Ok s.lengths));
      sums_are = sums_say headers sums are (b.1 ∙ under same (λ s. Ok s.sums));
      base_are = base_sums_say headers base are (c.1 ∙ under same (λ s. Ok s.base_sums));
      prop_delta = flag_says headers (codes "Prop-delta") changes_props are (d.1 ∙ under same (λ s. Ok s.changes_props));
      text_delta = flag_says headers (codes "Text-delta") changes_text are (e.1 ∙ under same (λ s. Ok s.changes_text));
    }

-- ---- nodes

record FieldsSay (headers : List Header) (node : NodeRecord) : Type 0 where
  path : path_value (header_lines headers) ≡ Ok node.path
  kind : Says IsKindWord headers (codes "Node-kind") node.kind
  action : Says IsActionWord headers (codes "Node-action") (Some node.action)
  source : IsSourceOf headers node.source

fields_say : (headers : List Header) (node : NodeRecord) → AllByRecursion IsHeader headers → node_of (header_lines headers) ≡ Ok node
    → FieldsSay headers node
unfolding node_of
fields_say headers node are h =
    let block = header_lines headers in
    let a = bound_ok (path_value block) _ _ h in
    let b = bound_ok (kind_value block) _ _ a.2 in
    let c = bound_ok (action_value block) _ _ b.2 in
    let d = bound_ok (source_value block) _ _ c.2 in
    subst (FieldsSay headers) (ok_same _ _ d.2)
    (record { path = a.1; kind = kind_says headers b.0 are b.1; action = action_says headers c.0 are c.1; source = source_says headers d.0 are d.1 })

-- the text is kept of one that the grammar gives
record KeptGiven (texts : Texts) (flag : Bool) (base sums : Sums) (own : Option (List ℕ)) (o : Option TextSection) : Type 0 where
  whole : Option TextSection
  is : IsGiven (IsTextOf flag base sums) own whole
  kept_is : o ≡ kept_text texts whole

kept_given : (texts : Texts) (flag : Bool) (base sums : Sums) (own : Option (List ℕ)) (o : Option TextSection)
    → IsGiven (KeptText texts flag base sums) own o → KeptGiven texts flag base sums own o
kept_given Whole flag base sums None None h = record { whole = None; is = tt; kept_is = refl }
kept_given Sha1 flag base sums None None h = record { whole = None; is = tt; kept_is = refl }
kept_given Md5 flag base sums None None h = record { whole = None; is = tt; kept_is = refl }
kept_given texts flag base sums None (Some t) h = absurd h
kept_given texts flag base sums (Some own) None h = absurd h
kept_given texts flag base sums (Some own) (Some t) h =
    record { whole = Some h.whole; is = h.is; kept_is = ap (λ (t : TextSection). Some t) h.kept_is ∙ by texts h.whole }
  where
    by : (texts : Texts) (t : TextSection) → Some (kept_section texts t) ≡ kept_text texts (Some t)
    by Whole t = refl
    by Sha1 t = refl
    by Md5 t = refl

-- the node as it was written, with what else its headers say
record NodeRead (texts : Texts) (headers : List Header) (bytes : List ℕ) (what : Record) (rest : List ℕ) : Type 0 where
  node : NodeRecord
  what_is : what ≡ kept_record texts (Node node)
  prop_bytes : Option (List ℕ)
  text_bytes : Option (List ℕ)
  parts : bytes ≡ unwrap_or prop_bytes [] ++ (unwrap_or text_bytes [] ++ rest)
  lengths : AreLengths headers prop_bytes text_bytes
  is : IsNode headers prop_bytes text_bytes node

-- what its parts are read as
node_parts : (limits : Limits) (texts : Texts) (headers : List Header) (value bytes mid after : List ℕ) (what : Record) (rest : List ℕ) (node : NodeRecord)
    (props len : Option ℕ) (sums base : Sums) (changes_props changes_text : Bool) (section : Option PropSection) (t : Option TextSection)
    → AllByRecursion IsHeader headers → header_value (header_lines headers) (codes "Node-path") ≡ Ok (Some value)
    → node_of (header_lines headers) ≡ Ok node
    → shape_of (header_lines headers) ≡ Ok (record {
      lengths = record { props = props; text = len };
      sums = record { md5 = sums.md5; sha1 = sums.sha1 };
      base_sums = record { md5 = base.md5; sha1 = base.sha1 };
      changes_props = changes_props;
      changes_text = changes_text;
    })
    → if_given props (sized_props_at changes_props limits.props) bytes ≡ Ok (section, mid)
    → if_given len (sized_text_at (record {
      lengths = record { props = props; text = len };
      sums = record { md5 = sums.md5; sha1 = sums.sha1 };
      base_sums = record { md5 = base.md5; sha1 = base.sha1 };
      changes_props = changes_props;
      changes_text = changes_text;
    }) texts limits.text) mid ≡ Ok (t, after)
    → ◌≡◌ {A = Read Record}
    (Ok (Node (record { path = node.path; kind = node.kind; action = node.action; source = node.source; props = section; text = t }), after))
    (Ok (what, rest))
    → NodeRead texts headers bytes what rest
node_parts limits texts headers value bytes mid after what rest node props len sums base changes_props changes_text section t are given e f g h k =
    let same =
    read_same (Node (record { path = node.path; kind = node.kind; action = node.action; source = node.source; props = section; text = t }), after)
    (what, rest) k in
    let fields = fields_say headers node are e in
    let shape = shape_says headers props len sums base changes_props changes_text are f in
    let props_read =
    section_read (IsPropsOf changes_props) (sized_props_at changes_props limits.props) props bytes section mid
    (λ n x k. sized_props_found changes_props limits.props n bytes x mid k) g in
    let text_read =
    section_read (KeptText texts changes_text base sums) _ len mid t rest
    (λ n x k. sized_text_found texts props len changes_props changes_text base sums limits.text n mid x rest k)
    (h ∙ ap (λ (l : List ℕ). Ok (t, l)) same.1) in
    let whole = kept_given texts changes_text base sums text_read.own t text_read.is in
    let path = path_says value node.path (sym (ap (λ r. r >>= λ value. path_of (unwrap_or value [])) given) ∙ fields.path) in
    record {
      node = record { path = node.path; kind = node.kind; action = node.action; source = node.source; props = section; text = whole.whole };
      what_is =
          sym same.0
          ∙ ap (λ (o : Option TextSection). Node (record {
            path = node.path;
            kind = node.kind;
            action = node.action;
            source = node.source;
            props = section;
            text = o;
          })) whole.kept_is;
      prop_bytes = props_read.own;
      text_bytes = text_read.own;
      parts = props_read.parts ∙ ap (λ (l : List ℕ). unwrap_or props_read.own [] ++ l) text_read.parts;
      lengths = are_lengths headers props len props_read.own text_read.own shape.lengths props_read.long text_read.long;
      is = record {
        path = (value, value_gives headers (codes "Node-path") (Some value) are given, path);
        kind = fields.kind;
        action = fields.action;
        source = fields.source;
        changes_props = changes_props;
        changes_text = changes_text;
        prop_delta = shape.prop_delta;
        text_delta = shape.text_delta;
        sums = sums;
        base = base;
        sums_are = shape.sums_are;
        base_are = shape.base_are;
        props_are = props_read.is;
        text_is = whole.is;
      };
    }

node_read : (limits : Limits) (texts : Texts) (headers : List Header) (value bytes : List ℕ) (what : Record) (rest : List ℕ)
    → AllByRecursion IsHeader headers → header_value (header_lines headers) (codes "Node-path") ≡ Ok (Some value)
    → node_at limits texts (header_lines headers) bytes ≡ Ok (what, rest) → NodeRead texts headers bytes what rest
unfolding node_at
node_read limits texts headers value bytes what rest are given h =
    let block = header_lines headers in
    let a = bound_ok (node_of block) _ _ h in
    let b = bound_ok (shape_of block) _ _ a.2 in
    let c = bound_ok (prop_section_at b.0 limits.props bytes) _ _ b.2 in
    let d = bound_ok (text_section_at b.0 texts limits.text c.0.1) _ _ c.2 in
    node_parts limits texts headers value bytes c.0.1 d.0.1 what rest a.0 b.0.lengths.props b.0.lengths.text
    (record { md5 = b.0.sums.md5; sha1 = b.0.sums.sha1 }) (record { md5 = b.0.base_sums.md5; sha1 = b.0.base_sums.sha1 }) b.0.changes_props
    b.0.changes_text c.0.0 d.0.0 are given a.1 b.1 c.1 d.1 d.2

-- ---- records whose sections are passed over

record PassedRead (headers : List Header) (bytes : List ℕ) (what what_read : Record) (rest : List ℕ) : Type 0 where
  prop_bytes : Option (List ℕ)
  text_bytes : Option (List ℕ)
  parts : bytes ≡ unwrap_or prop_bytes [] ++ (unwrap_or text_bytes [] ++ rest)
  lengths : AreLengths headers prop_bytes text_bytes
  what_is : what_read ≡ what

passed_read : (headers : List Header) (what what_read : Record) (bytes rest : List ℕ) → AllByRecursion IsHeader headers
    → passed_at what (header_lines headers) bytes ≡ Ok (what_read, rest) → PassedRead headers bytes what what_read rest
passed_read headers what what_read bytes rest are h =
    let a = bound_ok (lengths_of (header_lines headers)) _ _ h in
    let b = bound_ok (after_sections a.0 bytes) (λ read. Ok (what, read.1)) (what_read, rest) a.2 in
    let same = read_same (what, b.0.1) (what_read, rest) b.2 in
    let say = lengths_say headers a.0.props a.0.text are a.1 in
    let p = sections_passed a.0.props a.0.text bytes rest b.0.0 (b.1 ∙ ap (λ (l : List ℕ). Ok (b.0.0, l)) same.1) in
    record {
      prop_bytes = p.prop_bytes;
      text_bytes = p.text_bytes;
      parts = p.parts;
      lengths = are_lengths headers a.0.props a.0.text p.prop_bytes p.text_bytes say p.props_long p.text_long;
      what_is = sym same.0;
    }

-- ---- records

-- what is read of a record is what is kept of one of the grammar
pub record RecordRead (texts : Texts) (bytes : List ℕ) (what : Record) (rest : List ℕ) : Type 0 where
  pub whole : Record
  pub what_is : what ≡ kept_record texts whole
  pub is : IsRecord bytes whole rest

node_record : (texts : Texts) (bytes after : List ℕ) (headers : List Header) (what : Record) (rest : List ℕ) → IsBlock bytes headers after
    → NodeRead texts headers after what rest → Gives headers (codes "Revision-number") None → AtMostOnce headers (codes "UUID")
    → AtMostOnce headers (codes "SVN-fs-dump-format-version") → RecordRead texts bytes what rest
node_record texts bytes after headers what rest block n rev uuid format = record {
  whole = Node n.node;
  what_is = n.what_is;
  is = record {
    headers = headers;
    prop_bytes = n.prop_bytes;
    text_bytes = n.text_bytes;
    block = subst (IsBlock bytes headers) n.parts block;
    lengths = n.lengths;
    about = (rev, uuid, format, n.is);
  };
}

passed_record : (texts : Texts) (bytes after : List ℕ) (headers : List Header) (what what_read : Record) (rest : List ℕ) → IsBlock bytes headers after
    → kept_record texts what ≡ what → PassedRead headers after what what_read rest
    → ((prop_bytes text_bytes : Option (List ℕ)) → IsAbout headers prop_bytes text_bytes what) → RecordRead texts bytes what_read rest
passed_record texts bytes after headers what what_read rest block kept_is p about = record {
  whole = what;
  what_is = p.what_is ∙ sym kept_is;
  is = record {
    headers = headers;
    prop_bytes = p.prop_bytes;
    text_bytes = p.text_bytes;
    block = subst (IsBlock bytes headers) p.parts block;
    lengths = p.lengths;
    about = about p.prop_bytes p.text_bytes;
  };
}

-- each line is a header
headed_lines : (limits : Limits) (texts : Texts) (block after : List ℕ) (read : Record × List ℕ) → headed_at limits texts block after ≡ Ok read
    → are_headers block ≡ true
unfolding subject_of
headed_lines limits texts block after read h =
    let subject = bound_ok (subject_of block) _ _ h in
    (ok_first (are_headers block) _ NotAHeader _ subject.1).0

-- the revision's number, if there is one
headed_number : (limits : Limits) (texts : Texts) (block after : List ℕ) (read : Record × List ℕ) → headed_at limits texts block after ≡ Ok read
    → (rev : Option ℕ) × (number_value block (codes "Revision-number") ≡ Ok rev)
unfolding subject_of
headed_number limits texts block after read h =
    let subject = bound_ok (subject_of block) _ _ h in
    let rev = bound_ok (number_value block (codes "Revision-number")) _ _ (ok_first (are_headers block) _ NotAHeader _ subject.1).1 in
    (rev.0, rev.1)

-- headers without a revision's number
without_number : (limits : Limits) (texts : Texts) (bytes after : List ℕ) (headers : List Header) (what : Record) (rest : List ℕ)
    → IsBlock bytes headers after → number_value (header_lines headers) (codes "Revision-number") ≡ Ok None
    → are_headers (header_lines headers) ≡ true
    → headed_at limits texts (header_lines headers) after ≡ Ok (what, rest) → RecordRead texts bytes what rest
unfolding subject_of
without_number limits texts bytes after headers what rest block none lines h =
    let subject = bound_ok (subject_of (header_lines headers)) _ _ h in
    let found = ok_first (are_headers (header_lines headers)) _ NotAHeader _ subject.1 in
    let other = sym (ap (λ r. r >>= λ rev. subject_by rev (header_lines headers)) none) ∙ found.1 in
    let a = bound_ok (is_given (header_lines headers) (codes "Node-path")) _ _ other in
    let b = bound_ok (is_given (header_lines headers) (codes "UUID")) _ _ a.2 in
    let c = bound_ok (is_given (header_lines headers) (codes "SVN-fs-dump-format-version")) _ _ b.2 in
    by a.0 b.0 c.0 a.1 b.1 c.1
  where
    are : AllByRecursion IsHeader headers
    are = block.headers_are

    rev : Gives headers (codes "Revision-number") None
    rev = number_says headers (codes "Revision-number") None are none

    once : (name : List ℕ) (b : Bool) → is_given (header_lines headers) name ≡ Ok b → AtMostOnce headers name
    once name b e = let g = given_says headers name b are e in (g.value, g.gives)

    other : (uuid format : Bool) → is_given (header_lines headers) (codes "Node-path") ≡ Ok false → is_given (header_lines headers) (codes "UUID") ≡ Ok uuid
        → is_given (header_lines headers) (codes "SVN-fs-dump-format-version") ≡ Ok format → (uuid || format) ≡ true
        → passed_at Other (header_lines headers) after ≡ Ok (what, rest) → RecordRead texts bytes what rest
    other uuid format e f g some k =
        let path = given_says headers (codes "Node-path") false are e in
        let no_path = subst (Gives headers (codes "Node-path")) (none_from_test path.value path.is) path.gives in
        let u = given_says headers (codes "UUID") uuid are f in
        let v = given_says headers (codes "SVN-fs-dump-format-version") format are g in
        passed_record texts bytes after headers Other what rest block refl (passed_read headers Other what after rest are k)
        (λ p t. (rev, no_path, (u.value, u.gives), (v.value, v.gives), ap₂ (λ (a b : Bool). a || b) u.is v.is ∙ some))

    by : (node uuid format : Bool) → is_given (header_lines headers) (codes "Node-path") ≡ Ok node → is_given (header_lines headers) (codes "UUID") ≡ Ok uuid
        → is_given (header_lines headers) (codes "SVN-fs-dump-format-version") ≡ Ok format → RecordRead texts bytes what rest
    by true uuid format e f g =
        let same : headed_at limits texts (header_lines headers) after ≡ node_at limits texts (header_lines headers) after = rw (lines, none, e, f, g) refl in
        let path = given_says headers (codes "Node-path") true are e in
        let value = some_value path.value path.is in
        let node =
        node_read limits texts headers value.0 after what rest are (path.read ∙ ap (λ (o : Option (List ℕ)). Ok o) value.1) (sym same ∙ h) in
        node_record texts bytes after headers what rest block node rev (once (codes "UUID") uuid f)
        (once (codes "SVN-fs-dump-format-version") format g)
    by false true format e f g =
        let same : headed_at limits texts (header_lines headers) after ≡ passed_at Other (header_lines headers) after = rw (lines, none, e, f, g) refl in
        other true format e f g refl (sym same ∙ h)
    by false false true e f g =
        let same : headed_at limits texts (header_lines headers) after ≡ passed_at Other (header_lines headers) after = rw (lines, none, e, f, g) refl in
        other false true e f g refl (sym same ∙ h)
    by false false false e f g =
        let same : headed_at limits texts (header_lines headers) after ≡ Err UnknownRecord = rw (lines, none, e, f, g) refl in
        absurd (err_ok UnknownRecord (what, rest) (sym same ∙ h))

pub record_found : (limits : Limits) (texts : Texts) (bytes : List ℕ) (what : Record) (rest : List ℕ) → record_at limits texts bytes ≡ Ok (Some what, rest)
    → RecordRead texts bytes what rest
unfolding record_at
record_found limits texts bytes what rest h =
    let block = bound_ok (block_at false limits.headers bytes) _ _ h in
    by block.0.0 block.0.1 block.1 block.2
  where
    -- with a revision's number, or without
    numbered : (after : List ℕ) (headers : List Header) → IsBlock bytes headers after → are_headers (header_lines headers) ≡ true → (rev : Option ℕ)
        → number_value (header_lines headers) (codes "Revision-number") ≡ Ok rev
        → headed_at limits texts (header_lines headers) after ≡ Ok (what, rest) → RecordRead texts bytes what rest
    numbered after headers is lines None number k = without_number limits texts bytes after headers what rest is number lines k
    numbered after headers is lines (Some rev) number k =
        let same = headed_revision limits texts (header_lines headers) after rev lines number in
        passed_record texts bytes after headers (Revision rev) what rest is refl
        (passed_read headers (Revision rev) what after rest is.headers_are (sym same ∙ k))
        (λ p t. number_says headers (codes "Revision-number") (Some rev) is.headers_are number)

    headed : (block after : List ℕ) (headers : List Header) → block ≡ header_lines headers → IsBlock bytes headers after → are_headers block ≡ true
        → headed_at limits texts block after ≡ Ok (what, rest) → RecordRead texts bytes what rest
    headed block after headers same is lines k =
        let lines_are = sym (ap are_headers same) ∙ lines in
        let read = sym (ap (λ (l : List ℕ). headed_at limits texts l after) same) ∙ k in
        let rev = headed_number limits texts (header_lines headers) after (what, rest) read in
        numbered after headers is lines_are rev.0 rev.1 read

    by : (block after : List ℕ) → block_at false limits.headers bytes ≡ Ok (block, after) → record_after limits texts block after ≡ Ok (Some what, rest)
        → RecordRead texts bytes what rest
    by [] after e k = absurd (none-some what (read_same (None, after) (Some what, rest) k).0)
    by (b ∷ block) after e k =
        let read = bound_ok (headed_at limits texts (b ∷ block) after) (λ read. Ok (Some read.0, read.1)) (Some what, rest) k in
        let same = read_same (Some read.0.0, read.0.1) (Some what, rest) read.2 in
        let whole : read.0 ≡ (what, rest) = ap₂ (λ (x : Record) (y : List ℕ). (x, y)) (same_Some read.0.0 what same.0) same.1 in
        let lines = headed_lines limits texts (b ∷ block) after read.0 read.1 in
        let found = block_of bytes limits.headers b block after e lines in
        headed (b ∷ block) after found.headers found.block_is found.is lines (read.1 ∙ ap (λ (p : Record × List ℕ). Ok p) whole)
