-- A worked example of the grammar, computed: a record that svnadmin writes, after an empty line.
use Rattle.std.proofs.Common.{◌≡◌, ℕ, true, false, List, [], ◌∷◌, Option, Some, None, Ok, refl, codes, lit≤}
use Rattle.std.specs.List.{AllByRecursion}
use Rattle.std.specs.Str.{is_utf8, chars}
use Rattle.std.proofs.lemmas.Option.{none-some}
use Rattle.svn_dump.specs.declared.record.Record.TheVariants.{Node}
use Rattle.svn_dump.specs.Headers.{header_value}
use Rattle.law_dump.specs.Grammar.{lacks, Header, IsHeader, IsChange, IsRecord, Gives, header_lines}
use Rattle.law_dump.proofs.GrammarHeaders.{value_gives}
use Rattle.law_dump.proofs.Rows.{root_change, root_bytes}

abbrev headers : List Header
headers =
    (codes "Node-path", []) ∷ (codes "Node-kind", codes "dir") ∷ (codes "Node-action", codes "change") ∷ (codes "Prop-delta", codes "true")
    ∷ (codes "Prop-content-length", codes "22") ∷ (codes "Content-length", codes "22") ∷ []

one : {h : Header} → lacks 58 h.0 ≡ true → lacks 10 h.0 ≡ true → lacks 10 h.1 ≡ true → IsHeader h
one a b c = record { name = a; name_line = b; value = c }

plain : AllByRecursion IsHeader headers
plain =
    (one refl refl refl, (one refl refl refl, (one refl refl refl, (one refl refl refl, (one refl refl refl, (one refl refl refl, tt))))))

gives : (name : List ℕ) (value : Option (List ℕ)) → header_value (header_lines headers) name ≡ Ok value → Gives headers name value
gives name value h = value_gives headers name value plain h

p_is_v : IsChange (codes "K 1\np\nV 1\nv\n") (codes "p") (Some (codes "v"))
p_is_v = (
  record { bounded = lit≤ tt; text = refl },
  codes "K 1\np\n",
  codes "V 1\nv\n",
  refl,
  (codes "1", refl, refl),
  (codes "1", refl, refl),
)

root_is : IsRecord (10 ∷ root_bytes) (Node root_change) (codes "\n\n")
unfolding is_utf8 chars
root_is = record {
  headers = headers;
  prop_bytes = Some (codes "K 1\np\nV 1\nv\nPROPS-END\n");
  text_bytes = None;
  block = record { blank = [] ∷ []; parts = refl; blank_is = (record { whole = refl; blank = refl }, tt); headers_are = plain; begins = refl };
  lengths = record {
    props = (codes "22", gives (codes "Prop-content-length") (Some (codes "22")) refl, refl);
    text = gives (codes "Text-content-length") None refl;
    both = Some 22;
    both_is = (codes "22", gives (codes "Content-length") (Some (codes "22")) refl, refl);
    agree = refl;
  };
  about = (
    gives (codes "Revision-number") None refl,
    (None, gives (codes "UUID") None refl),
    (None, gives (codes "SVN-fs-dump-format-version") None refl),
    record {
      path = ([], gives (codes "Node-path") (Some []) refl, record { utf8 = refl; names = refl; lawful = tt; bounded = lit≤ tt });
      kind = (codes "dir", gives (codes "Node-kind") (Some (codes "dir")) refl, refl);
      action = (codes "change", gives (codes "Node-action") (Some (codes "change")) refl, refl);
      source = (gives (codes "Node-copyfrom-rev") None refl, gives (codes "Node-copyfrom-path") None refl);
      changes_props = true;
      changes_text = false;
      prop_delta = gives (codes "Prop-delta") (Some (codes "true")) refl;
      text_delta = (None, gives (codes "Text-delta") None refl, none-some (codes "true"));
      sums = record { md5 = None; sha1 = None };
      base = record { md5 = None; sha1 = None };
      sums_are = record {
        new = None;
        old = None;
        new_is = gives (codes "Text-content-md5") None refl;
        old_is = gives (codes "Text-content-checksum") None refl;
        md5_is = refl;
        sha1_is = gives (codes "Text-content-sha1") None refl;
      };
      base_are = record { md5_is = gives (codes "Text-delta-base-md5") None refl; sha1_is = gives (codes "Text-delta-base-sha1") None refl };
      props_are = (codes "K 1\np\nV 1\nv\n", codes "PROPS-END\n", refl, p_is_v, refl);
      text_is = tt;
    },
  );
}
