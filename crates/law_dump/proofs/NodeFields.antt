-- The headers of a node's record, as names with their values.
use Rattle.std.proofs.Common.{◌≡◌, ℕ, ◌+◌, ◌^◌, ◌<◌, Bool, true, false, cond, ◌||◌, List, [], ◌∷◌, ◌++◌, Option, Some, None, option_map, unwrap_or, is_some, IfSome, refl, ◌∙◌, append_assoc, append-nil, codes, decimal, arith}
use Rattle.hex.specs.Hex.{encode_lower}
use Rattle.svn_types.specs.declared.kind.Kind.{Kind}
use Rattle.svn_types.specs.declared.kind.Kind.TheVariants.{File, Directory}
use Rattle.svn_types.specs.PathTexts.{path_text}
use Rattle.svn_dump.specs.declared.record.Action.{Action}
use Rattle.svn_dump.specs.declared.record.Action.TheVariants.{Add, Change, Delete, Replace}
use Rattle.svn_dump.specs.declared.record.CopySource.{CopySource}
use Rattle.svn_dump.specs.declared.record.NodeRecord.{NodeRecord}
use Rattle.svn_dump.specs.declared.record.PropSection.{PropSection}
use Rattle.svn_dump.specs.declared.record.PropSection.TheVariants as props
use Rattle.svn_dump.specs.declared.record.TextSection.{TextSection}
use Rattle.svn_dump.specs.declared.record.TextSection.TheVariants as text
use Rattle.svn_dump.specs.Written.{kind_line, action_word, source_lines, prop_lines, sum_line, sum_lines, base_sum_lines, text_lines, length_line, length_lines, headers}
use Rattle.law_dump.specs.Laws.{IsPath, IsSource}
use Rattle.law_dump.proofs.Lacking.{lacks, number_lacks_line_feed}
use Rattle.law_dump.proofs.HeaderFields.{Field, AreFields, is_value, value_line, lines}
use Rattle.law_dump.proofs.HexSums.{encoded_lacks_line_feed}
use Rattle.law_dump.proofs.PathFields.{path_lacks_line_feed}
use Rattle.law_dump.proofs.PropSections.{is_delta}
use Rattle.law_dump.proofs.TextSections.{md5_of, sha1_of, base_md5_of, base_sha1_of, is_text_delta}

-- ---- values

abbrev pub flag : Bool → Option (List ℕ)
flag true = Some (codes "true")
flag false = None

abbrev pub kind_word : Kind → List ℕ
kind_word File = codes "file"
kind_word Directory = codes "dir"

abbrev pub changes_props : Option PropSection → Bool
changes_props None = false
changes_props (Some section) = is_delta section

abbrev pub changes_text : Option TextSection → Bool
changes_text None = false
changes_text (Some section) = is_text_delta section

abbrev pub md5_given : Option TextSection → Option (List ℕ)
md5_given None = None
md5_given (Some section) = md5_of section

abbrev pub sha1_given : Option TextSection → Option (List ℕ)
sha1_given None = None
sha1_given (Some section) = sha1_of section

abbrev pub base_md5_given : Option TextSection → Option (List ℕ)
base_md5_given None = None
base_md5_given (Some section) = base_md5_of section

abbrev pub base_sha1_given : Option TextSection → Option (List ℕ)
base_sha1_given None = None
base_sha1_given (Some section) = base_sha1_of section

abbrev pub both_lengths : Option ℕ → Option ℕ → Option ℕ
both_lengths props text = cond (is_some props || is_some text) (Some (unwrap_or props 0 + unwrap_or text 0)) None

-- of a node whose sections are so long
abbrev pub node_fields : NodeRecord → Option ℕ → Option ℕ → List Field
node_fields node props text =
    (codes "Node-path", Some (path_text node.path))
    ∷ (codes "Node-kind", option_map kind_word node.kind)
    ∷ (codes "Node-action", Some (action_word node.action))
    ∷ (codes "Node-copyfrom-rev", option_map (λ (s : CopySource). decimal s.rev) node.source)
    ∷ (codes "Node-copyfrom-path", option_map (λ (s : CopySource). path_text s.path) node.source)
    ∷ (codes "Prop-delta", flag (changes_props node.props))
    ∷ (codes "Text-delta", flag (changes_text node.text))
    ∷ (codes "Text-delta-base-md5", option_map encode_lower (base_md5_given node.text))
    ∷ (codes "Text-delta-base-sha1", option_map encode_lower (base_sha1_given node.text))
    ∷ (codes "Text-content-md5", option_map encode_lower (md5_given node.text))
    ∷ (codes "Text-content-sha1", option_map encode_lower (sha1_given node.text))
    ∷ (codes "Prop-content-length", option_map decimal props)
    ∷ (codes "Text-content-length", option_map decimal text)
    ∷ (codes "Content-length", option_map decimal (both_lengths props text)) ∷ []

-- ---- lines

kind_lines : (kind : Option Kind) → kind_line kind ≡ value_line (codes "Node-kind") (option_map kind_word kind)
kind_lines None = refl
kind_lines (Some File) = refl
kind_lines (Some Directory) = refl

source_is : (source : Option CopySource) → source_lines source
    ≡ value_line (codes "Node-copyfrom-rev") (option_map (λ (s : CopySource). decimal s.rev) source)
    ++ value_line (codes "Node-copyfrom-path") (option_map (λ (s : CopySource). path_text s.path) source)
source_is None = refl
source_is (Some source) = refl

prop_lines_are : (section : Option PropSection) → prop_lines section ≡ value_line (codes "Prop-delta") (flag (changes_props section))
prop_lines_are None = refl
prop_lines_are (Some (props.Whole all)) = refl
prop_lines_are (Some (props.Delta changes)) = refl

sum_is : (name : List ℕ) (sum : Option (List ℕ)) → sum_line name sum ≡ value_line name (option_map encode_lower sum)
sum_is name None = refl
sum_is name (Some sum) = refl

sums_are : (first second : Option (List ℕ)) → sum_lines first second
    ≡ value_line (codes "Text-content-md5") (option_map encode_lower first)
    ++ value_line (codes "Text-content-sha1") (option_map encode_lower second)
sums_are first second = λ i. sum_is (codes "Text-content-md5") first i ++ sum_is (codes "Text-content-sha1") second i

base_sums_are : (first second : Option (List ℕ)) → base_sum_lines first second
    ≡ value_line (codes "Text-delta-base-md5") (option_map encode_lower first)
    ++ value_line (codes "Text-delta-base-sha1") (option_map encode_lower second)
base_sums_are first second = λ i. sum_is (codes "Text-delta-base-md5") first i ++ sum_is (codes "Text-delta-base-sha1") second i

text_lines_are : (section : Option TextSection) → text_lines section
    ≡ (value_line (codes "Text-delta") (flag (changes_text section))
    ++ (value_line (codes "Text-delta-base-md5") (option_map encode_lower (base_md5_given section))
    ++ value_line (codes "Text-delta-base-sha1") (option_map encode_lower (base_sha1_given section))))
    ++ (value_line (codes "Text-content-md5") (option_map encode_lower (md5_given section))
    ++ value_line (codes "Text-content-sha1") (option_map encode_lower (sha1_given section)))
text_lines_are None = refl
text_lines_are (Some (text.Whole bytes)) = refl
text_lines_are (Some (text.Delta delta)) =
    λ i. (value_line (codes "Text-delta") (flag true) ++ base_sums_are delta.base_md5 delta.base_sha1 i) ++ sums_are delta.md5 delta.sha1 i

length_is : (name : List ℕ) (len : Option ℕ) → length_line name len ≡ value_line name (option_map decimal len)
length_is name None = refl
length_is name (Some len) = refl

lengths_are : (props text : Option ℕ) → length_lines props text
    ≡ (value_line (codes "Prop-content-length") (option_map decimal props) ++ value_line (codes "Text-content-length") (option_map decimal text))
    ++ value_line (codes "Content-length") (option_map decimal (both_lengths props text))
lengths_are props text =
    λ i. (length_is (codes "Prop-content-length") props i ++ length_is (codes "Text-content-length") text i)
    ++ both (is_some props || is_some text) (unwrap_or props 0 + unwrap_or text 0) i
  where
    both : (b : Bool) (n : ℕ) → cond b (length_line (codes "Content-length") (Some n)) []
        ≡ value_line (codes "Content-length") (option_map decimal (cond b (Some n) None))
    both true n = refl
    both false n = refl

in_order : (p k a r q d t n o m s pl tl cl : List ℕ)
    → (((((p ++ k) ++ a) ++ (r ++ q)) ++ d) ++ ((t ++ (n ++ o)) ++ (m ++ s))) ++ ((pl ++ tl) ++ cl)
    ≡ p ++ (k ++ (a ++ (r ++ (q ++ (d ++ (t ++ (n ++ (o ++ (m ++ (s ++ (pl ++ (tl ++ (cl ++ [])))))))))))))
in_order p k a r q d t n o m s pl tl cl = simp (append_assoc, append-nil) refl

-- the headers that are written are the lines of these fields
pub headers_are_lines : (node : NodeRecord) (props text : Option ℕ) → headers node props text ≡ lines (node_fields node props text)
headers_are_lines node props text =
    let path = value_line (codes "Node-path") (Some (path_text node.path)) in
    let kind = value_line (codes "Node-kind") (option_map kind_word node.kind) in
    let action = value_line (codes "Node-action") (Some (action_word node.action)) in
    let rev = value_line (codes "Node-copyfrom-rev") (option_map (λ (s : CopySource). decimal s.rev) node.source) in
    let from = value_line (codes "Node-copyfrom-path") (option_map (λ (s : CopySource). path_text s.path) node.source) in
    let prop_delta = value_line (codes "Prop-delta") (flag (changes_props node.props)) in
    let text_delta = value_line (codes "Text-delta") (flag (changes_text node.text)) in
    let base_first = value_line (codes "Text-delta-base-md5") (option_map encode_lower (base_md5_given node.text)) in
    let base_second = value_line (codes "Text-delta-base-sha1") (option_map encode_lower (base_sha1_given node.text)) in
    let first = value_line (codes "Text-content-md5") (option_map encode_lower (md5_given node.text)) in
    let second = value_line (codes "Text-content-sha1") (option_map encode_lower (sha1_given node.text)) in
    let props_len = value_line (codes "Prop-content-length") (option_map decimal props) in
    let text_len = value_line (codes "Text-content-length") (option_map decimal text) in
    let both_len = value_line (codes "Content-length") (option_map decimal (both_lengths props text)) in
    let written_so : headers node props text
    ≡ (((((path ++ kind) ++ action) ++ (rev ++ from)) ++ prop_delta) ++ ((text_delta ++ (base_first ++ base_second)) ++ (first ++ second)))
    ++ ((props_len ++ text_len) ++ both_len) =
    λ i. (((((path ++ kind_lines node.kind i) ++ action) ++ source_is node.source i) ++ prop_lines_are node.props i)
    ++ text_lines_are node.text i) ++ lengths_are props text i in
    written_so ∙ in_order path kind action rev from prop_delta text_delta base_first base_second first second props_len text_len both_len

-- ---- lawful values

mapped : {X : Type 0} (f : X → List ℕ) (o : Option X) → ((x : X) → lacks 10 (f x) ≡ true) → is_value (option_map f o) ≡ true
mapped f None h = refl
mapped f (Some x) h = h x

kind_plain : (kind : Kind) → lacks 10 (kind_word kind) ≡ true
kind_plain File = refl
kind_plain Directory = refl

action_plain : (action : Action) → lacks 10 (action_word action) ≡ true
action_plain Add = refl
action_plain Change = refl
action_plain Delete = refl
action_plain Replace = refl

flag_plain : (b : Bool) → is_value (flag b) ≡ true
flag_plain true = refl
flag_plain false = refl

rev_plain : (source : Option CopySource) → IfSome source IsSource → is_value (option_map (λ (s : CopySource). decimal s.rev) source) ≡ true
rev_plain None h = refl
rev_plain (Some source) h = number_lacks_line_feed source.rev h.rev

source_plain : (source : Option CopySource) → IfSome source IsSource
    → is_value (option_map (λ (s : CopySource). path_text s.path) source) ≡ true
source_plain None h = refl
source_plain (Some source) h = path_lacks_line_feed source.path h.path.names

pub number_plain : (o : Option ℕ) → unwrap_or o 0 < 2 ^ 64 → is_value (option_map decimal o) ≡ true
number_plain None h = refl
number_plain (Some n) h = number_lacks_line_feed n h

pub both_small : (props text : Option ℕ) → unwrap_or props 0 + unwrap_or text 0 < 2 ^ 64 → unwrap_or (both_lengths props text) 0 < 2 ^ 64
both_small None None h = h
both_small None (Some n) h = h
both_small (Some n) None h = h
both_small (Some n) (Some m) h = h

pub node_fields_lawful : (node : NodeRecord) (props text : Option ℕ) → IsPath node.path → IfSome node.source IsSource
    → unwrap_or props 0 + unwrap_or text 0 < 2 ^ 64 → AreFields (node_fields node props text)
node_fields_lawful node props text path source small = (
  record { name = refl; name_line = refl; value = path_lacks_line_feed node.path path.names },
  (
    record { name = refl; name_line = refl; value = mapped kind_word node.kind kind_plain },
    (
      record { name = refl; name_line = refl; value = action_plain node.action },
      (
        record { name = refl; name_line = refl; value = rev_plain node.source source },
        (
          record { name = refl; name_line = refl; value = source_plain node.source source },
          (
            record { name = refl; name_line = refl; value = flag_plain (changes_props node.props) },
            (
              record { name = refl; name_line = refl; value = flag_plain (changes_text node.text) },
              (
                record { name = refl; name_line = refl; value = mapped encode_lower (base_md5_given node.text) encoded_lacks_line_feed },
                (
                  record { name = refl; name_line = refl; value = mapped encode_lower (base_sha1_given node.text) encoded_lacks_line_feed },
                  (
                    record { name = refl; name_line = refl; value = mapped encode_lower (md5_given node.text) encoded_lacks_line_feed },
                    (
                      record { name = refl; name_line = refl; value = mapped encode_lower (sha1_given node.text) encoded_lacks_line_feed },
                      (
                        record { name = refl; name_line = refl; value = number_plain props (omega (arith, small)) },
                        (
                          record { name = refl; name_line = refl; value = number_plain text (omega (arith, small)) },
                          (
                            record { name = refl; name_line = refl; value = number_plain (both_lengths props text) (both_small props text small) },
                            tt,
                          ),
                        ),
                      ),
                    ),
                  ),
                ),
              ),
            ),
          ),
        ),
      ),
    ),
  ),
)
