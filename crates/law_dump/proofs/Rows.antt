-- Worked examples of the laws, computed: what is written of a record, what is read of that, and that the laws are about such a record.
-- All but the last are what svnadmin writes, which ends a node without sections by one line feed less.
use Rattle.std.proofs.Common.{lit<, lit≤, arith, zero, suc, nat_lt}
use Rattle.std.specs.Prelude.{◌≡◌, ℕ, true, List, [], ◌∷◌, ◌++◌, codes, Some, None, Ok, IsUtf8, refl}
use Rattle.std.specs.Fmt.{digits}
use Rattle.std.specs.List.{list_all}
use Rattle.std.proofs.lemmas.Bool.{and_parts, ltb-true}
use Rattle.std.specs.Str.{is_utf8, chars}
use Rattle.std.proofs.lemmas.List.Elements.{All-cons, All-nil}
use Rattle.std.proofs.lemmas.Str.{IsUtf8-from_is_utf8}
use Rattle.hex.specs.Hex.{IsBytes, encode_with, decode_pairs}
use Rattle.md5.specs.Md5.{md5}
use Rattle.md5.specs.Md5 as m
use Rattle.sha1.specs.Sha1.{sha1}
use Rattle.sha1.specs.Sha1 as s
use Rattle.svn_types.specs.Names.{IsName, IsPropName}
use Rattle.svn_types.specs.declared.kind.Kind.TheVariants.{File, Directory}
use Rattle.svn_dump.specs.declared.record.Action.TheVariants.{Add, Change, Delete}
use Rattle.svn_dump.specs.declared.record.NodeRecord.{NodeRecord}
use Rattle.svn_dump.specs.declared.record.PropSection.TheVariants as props
use Rattle.svn_dump.specs.declared.record.Record.TheVariants.{Node}
use Rattle.svn_dump.specs.declared.record.TextSection.TheVariants as text
use Rattle.svn_dump.specs.declared.sections.Limits.{Limits}
use Rattle.svn_dump.specs.declared.sections.Texts.TheVariants.{Whole, Sha1}
use Rattle.svn_dump.specs.Blocks.{headers_at, block_at}
use Rattle.svn_dump.specs.Properties.{changes_at}
use Rattle.svn_dump.specs.Shapes.{shape_of}
use Rattle.svn_dump.specs.Records.{subject_of, node_of, node_at, record_at}
use Rattle.svn_dump.specs.Written.{written}
use Rattle.law_dump.specs.Laws.{IsPath, IsWritable}

abbrev limits : Limits
limits = record { headers = 1000; props = 1000; text = 1000 }

-- ---- a change of the root: a property is set

abbrev pub root_change : NodeRecord
root_change = record {
  path = [];
  kind = Some Directory;
  action = Change;
  source = None;
  props = Some (props.Delta ((codes "p", Some (codes "v")) ∷ []));
  text = None;
}

abbrev pub root_bytes : List ℕ
root_bytes = codes "Node-path: \nNode-kind: dir\nNode-action: change\nProp-delta: true\nProp-content-length: 22\nContent-length: 22\n\nK 1\np\nV 1\nv\nPROPS-END\n\n\n"

root_written : written root_change ≡ root_bytes
unfolding digits
root_written = refl

root_read : record_at limits Whole root_bytes ≡ Ok (Some (Node root_change), codes "\n\n")
unfolding is_utf8 chars lib.Utf8.encode headers_at block_at changes_at shape_of subject_of node_of node_at record_at
root_read = refl

-- ---- a node is deleted

abbrev deletion : NodeRecord
deletion = record { path = codes "f" ∷ []; kind = None; action = Delete; source = None; props = None; text = None }

abbrev deletion_bytes : List ℕ
deletion_bytes = codes "Node-path: f\nNode-action: delete\n\n\n\n"

deletion_written : written deletion ≡ deletion_bytes
deletion_written = refl

deletion_read : record_at limits Whole deletion_bytes ≡ Ok (Some (Node deletion), codes "\n\n")
unfolding is_utf8 chars lib.Utf8.encode headers_at block_at shape_of subject_of node_of node_at record_at
deletion_read = refl

-- ---- an empty file without properties

abbrev empty_file : NodeRecord
empty_file = record {
  path = codes "e" ∷ [];
  kind = Some File;
  action = Add;
  source = None;
  props = Some (props.Whole []);
  text = Some (text.Whole []);
}

abbrev empty_bytes : List ℕ
empty_bytes = codes "Node-path: e\nNode-kind: file\nNode-action: add\nText-content-md5: d41d8cd98f00b204e9800998ecf8427e\nText-content-sha1: da39a3ee5e6b4b0d3255bfef95601890afd80709\nProp-content-length: 10\nText-content-length: 0\nContent-length: 10\n\nPROPS-END\n\n\n"

empty_written : written empty_file ≡ empty_bytes
unfolding digits encode_with m.block_words m.rounds m.compress m.hash_after m.digest_bytes md5
    s.first_words s.schedule s.rounds s.compress s.hash_after s.digest_bytes sha1
empty_written = refl

empty_read : record_at limits Whole empty_bytes ≡ Ok (Some (Node empty_file), codes "\n\n")
unfolding is_utf8 chars lib.Utf8.encode headers_at block_at changes_at decode_pairs shape_of subject_of node_of node_at record_at
    m.block_words m.rounds m.compress m.hash_after m.digest_bytes md5 s.first_words s.schedule s.rounds s.compress s.hash_after s.digest_bytes sha1
empty_read = refl

-- ---- a file of six bytes, with a property of none

-- the checksums of `hello` and a line feed
abbrev hello_md5 : List ℕ
hello_md5 = 177 ∷ 148 ∷ 106 ∷ 201 ∷ 36 ∷ 146 ∷ 210 ∷ 52 ∷ 124 ∷ 98 ∷ 53 ∷ 180 ∷ 210 ∷ 97 ∷ 17 ∷ 132 ∷ []

abbrev hello_sha1 : List ℕ
hello_sha1 = 245 ∷ 114 ∷ 211 ∷ 150 ∷ 250 ∷ 233 ∷ 32 ∷ 102 ∷ 40 ∷ 113 ∷ 79 ∷ 178 ∷ 206 ∷ 0 ∷ 247 ∷ 46 ∷ 148 ∷ 242 ∷ 37 ∷ 143 ∷ []

-- those of no bytes
abbrev empty_md5 : List ℕ
empty_md5 = 212 ∷ 29 ∷ 140 ∷ 217 ∷ 143 ∷ 0 ∷ 178 ∷ 4 ∷ 233 ∷ 128 ∷ 9 ∷ 152 ∷ 236 ∷ 248 ∷ 66 ∷ 126 ∷ []

abbrev empty_sha1 : List ℕ
empty_sha1 = 218 ∷ 57 ∷ 163 ∷ 238 ∷ 94 ∷ 107 ∷ 75 ∷ 13 ∷ 50 ∷ 85 ∷ 191 ∷ 239 ∷ 149 ∷ 96 ∷ 24 ∷ 144 ∷ 175 ∷ 216 ∷ 7 ∷ 9 ∷ []

abbrev added_file : NodeRecord
added_file = record {
  path = codes "f" ∷ [];
  kind = Some File;
  action = Add;
  source = None;
  props = Some (props.Whole ((codes "a", []) ∷ []));
  text = Some (text.Whole (codes "hello\n"));
}

abbrev added_bytes : List ℕ
added_bytes = codes "Node-path: f\nNode-kind: file\nNode-action: add\nText-content-md5: b1946ac92492d2347c6235b4d2611184\nText-content-sha1: f572d396fae9206628714fb2ce00f72e94f2258f\nProp-content-length: 21\nText-content-length: 6\nContent-length: 27\n\nK 1\na\nV 0\n\nPROPS-END\nhello\n\n\n"

added_written : written added_file ≡ added_bytes
unfolding digits encode_with m.block_words m.rounds m.compress m.hash_after m.digest_bytes md5
    s.first_words s.schedule s.rounds s.compress s.hash_after s.digest_bytes sha1
added_written = refl

added_read : record_at limits Whole added_bytes ≡ Ok (Some (Node added_file), codes "\n\n")
unfolding is_utf8 chars lib.Utf8.encode headers_at block_at changes_at decode_pairs shape_of subject_of node_of node_at record_at
    m.block_words m.rounds m.compress m.hash_after m.digest_bytes md5 s.first_words s.schedule s.rounds s.compress s.hash_after s.digest_bytes sha1
added_read = refl

-- ---- a copy whose text and properties differ from its source's: a property is set, and one is removed; the source's name has a colon

abbrev changed_copy : NodeRecord
changed_copy = record {
  path = codes "f" ∷ [];
  kind = Some File;
  action = Add;
  source = Some (record { rev = 2; path = codes "d" ∷ codes "f: g" ∷ [] });
  props = Some (props.Delta ((codes "b", Some (codes "x")) ∷ (codes "a", None) ∷ []));
  text = Some (text.Delta (record {
    delta = 83 ∷ 86 ∷ 78 ∷ 0 ∷ 0 ∷ 0 ∷ 6 ∷ 1 ∷ 6 ∷ 134 ∷ 104 ∷ 101 ∷ 108 ∷ 108 ∷ 111 ∷ 10 ∷ [];
    base_md5 = Some empty_md5;
    base_sha1 = Some empty_sha1;
    md5 = Some hello_md5;
    sha1 = Some hello_sha1;
  }));
}

abbrev changed_bytes : List ℕ
changed_bytes = codes "Node-path: f\nNode-kind: file\nNode-action: add\nNode-copyfrom-rev: 2\nNode-copyfrom-path: d/f: g\nProp-delta: true\nText-delta: true\nText-delta-base-md5: d41d8cd98f00b204e9800998ecf8427e\nText-delta-base-sha1: da39a3ee5e6b4b0d3255bfef95601890afd80709\nText-content-md5: b1946ac92492d2347c6235b4d2611184\nText-content-sha1: f572d396fae9206628714fb2ce00f72e94f2258f\nProp-content-length: 28\nText-content-length: 16\nContent-length: 44\n\nK 1\nb\nV 1\nx\nD 1\na\nPROPS-END\n"
    ++ 83 ∷ 86 ∷ 78 ∷ 0 ∷ 0 ∷ 0 ∷ 6 ∷ 1 ∷ 6 ∷ 134 ∷ 104 ∷ 101 ∷ 108 ∷ 108 ∷ 111 ∷ 10 ∷ [] ++ codes "\n\n"

changed_written : written changed_copy ≡ changed_bytes
unfolding digits encode_with
changed_written = refl

changed_read : record_at limits Whole changed_bytes ≡ Ok (Some (Node changed_copy), codes "\n\n")
unfolding is_utf8 chars lib.Utf8.encode headers_at block_at changes_at decode_pairs shape_of subject_of node_of node_at record_at
changed_read = refl

-- with stand-ins for texts
changed_kept : record_at limits Sha1 changed_bytes
    ≡ Ok (
      Some (Node (record {
        path = changed_copy.path;
        kind = changed_copy.kind;
        action = changed_copy.action;
        source = changed_copy.source;
        props = changed_copy.props;
        text = Some (text.Whole (codes "$sha1$f572d396fae9206628714fb2ce00f72e94f2258f"));
      })),
      codes "\n\n",
    )
unfolding is_utf8 chars lib.Utf8.encode headers_at block_at changes_at encode_with decode_pairs shape_of subject_of node_of node_at record_at
changed_kept = refl

-- ---- the laws are about these

bytes_from_test : (bytes : List ℕ) → list_all (λ b. nat_lt b 256) bytes ≡ true → IsBytes bytes
bytes_from_test [] h i = omega arith
bytes_from_test (b ∷ bytes) h zero = ltb-true b 256 (and_parts (nat_lt b 256) (list_all (λ b. nat_lt b 256) bytes) h).0
bytes_from_test (b ∷ bytes) h (suc i) = bytes_from_test bytes (and_parts (nat_lt b 256) (list_all (λ b. nat_lt b 256) bytes) h).1 i

name_d : IsName (codes "d")
name_d = record { not_empty = lit≤ tt; not_dots = refl; bounded = lit≤ tt; plain = refl }

name_f : IsName (codes "f")
name_f = record { not_empty = lit≤ tt; not_dots = refl; bounded = lit≤ tt; plain = refl }

name_g : IsName (codes "f: g")
name_g = record { not_empty = lit≤ tt; not_dots = refl; bounded = lit≤ tt; plain = refl }

path_f : IsPath (codes "f" ∷ [])
unfolding is_utf8 chars lib.Utf8.encode
path_f = record {
  names = All-cons IsName (codes "f") [] name_f (All-nil IsName);
  texts = All-cons IsUtf8 (codes "f") [] (IsUtf8-from_is_utf8 (codes "f") refl) (All-nil IsUtf8);
  bounded = lit≤ tt;
}

path_g : IsPath (codes "d" ∷ codes "f: g" ∷ [])
unfolding is_utf8 chars lib.Utf8.encode
path_g = record {
  names = All-cons IsName (codes "d") (codes "f: g" ∷ []) name_d (All-cons IsName (codes "f: g") [] name_g (All-nil IsName));
  texts = All-cons IsUtf8 (codes "d") (codes "f: g" ∷ []) (IsUtf8-from_is_utf8 (codes "d") refl)
      (All-cons IsUtf8 (codes "f: g") [] (IsUtf8-from_is_utf8 (codes "f: g") refl) (All-nil IsUtf8));
  bounded = lit≤ tt;
}

prop_a : IsPropName (codes "a")
prop_a = record { bounded = lit≤ tt; text = refl }

prop_b : IsPropName (codes "b")
prop_b = record { bounded = lit≤ tt; text = refl }

changed_is_writable : IsWritable limits Whole changed_copy
unfolding digits encode_with
changed_is_writable = record {
  lawful = record {
    path = path_f;
    source = record { path = path_g; rev = lit< tt };
    props = All-cons (λ c. IsPropName c.0) (codes "b", Some (codes "x")) ((codes "a", None) ∷ []) prop_b
        (All-cons (λ c. IsPropName c.0) (codes "a", None) [] prop_a (All-nil (λ c. IsPropName c.0)));
    text = (
      (refl, bytes_from_test empty_md5 refl),
      (refl, bytes_from_test empty_sha1 refl),
      (refl, bytes_from_test hello_md5 refl),
      (refl, bytes_from_test hello_sha1 refl),
    );
  };
  headers_fit = lit≤ tt;
  props_fit = lit≤ tt;
  text_fits = lit≤ tt;
  lengths = lit< tt;
}
