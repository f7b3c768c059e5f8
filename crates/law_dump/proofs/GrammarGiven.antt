-- What the values of headers say by the grammar is read of them.
use Rattle.std.proofs.Common.{◌≡◌, ◌≢◌, ℕ, Bool, true, false, List, [], Option, Some, None, Result, Ok, unwrap_or, is_some, refl, sym, ap, ◌∙◌, bytes_eq, codes}
use Rattle.std.specs.List.{AllByRecursion}
use Rattle.svn_lists.proofs.Tests.{false_from_clash}
use Rattle.svn_lists.proofs.Equality.{same_bytes}
use Rattle.svn_types.specs.declared.kind.Kind.{Kind}
use Rattle.svn_types.specs.declared.kind.Kind.TheVariants.{File, Directory}
use Rattle.svn_types.specs.Names.{Path}
use Rattle.svn_dump.specs.declared.fault.Reason.{Reason}
use Rattle.svn_dump.specs.declared.record.Action.{Action}
use Rattle.svn_dump.specs.declared.record.Action.TheVariants.{Add, Change, Delete, Replace}
use Rattle.svn_dump.specs.declared.record.CopySource.{CopySource}
use Rattle.svn_dump.specs.Reading.{◌>>=◌}
use Rattle.svn_dump.specs.Headers.{header_value}
use Rattle.svn_dump.specs.Fields.{number_or_fault, as_number, number_value, sum_or_fault, as_sum, sum_value, is_word, true_value, path_of, path_value, kind_of, kind_value, action_of, action_value, source_value}
use Rattle.svn_dump.specs.Records.{is_given}
use Rattle.svn_dump.specs.Written.{action_word}
use Rattle.law_dump.specs.Grammar.{Header, IsHeader, header_lines, Gives, Says, IsNumber, IsSumOf, IsPathOf, IsKindWord, IsActionWord, IsFlag, IsSourceOf}
use Rattle.law_dump.proofs.GrammarHeaders.{value_given}
use Rattle.svn_digits.proofs.PathTexts.{no_path_fault}

module _ (headers : List Header) (are : AllByRecursion IsHeader headers) where
  -- a value that is read where there is one
  pub said : {A : Type 0} (Spells : List ℕ → A → Type 0) (name : List ℕ) (read : Option (List ℕ) → Result (Option A) Reason) (o : Option A)
      → read None ≡ Ok None → ((value : List ℕ) (x : A) → Spells value x → read (Some value) ≡ Ok (Some x)) → Says Spells headers name o
      → (header_value (header_lines headers) name >>= read) ≡ Ok o
  said Spells name read None none some s = ap (λ r. r >>= read) (value_given headers name None are s) ∙ none
  said Spells name read (Some x) none some s =
      ap (λ r. r >>= read) (value_given headers name (Some s.0) are s.1) ∙ some s.0 x s.2

  pub number_said : (name : List ℕ) (o : Option ℕ) → Says IsNumber headers name o → number_value (header_lines headers) name ≡ Ok o
  number_said name o s = said IsNumber name as_number o refl (λ value n e. ap number_or_fault e) s

  pub sum_said : (size : ℕ) (name : List ℕ) (o : Option (List ℕ)) → Says (IsSumOf size) headers name o
      → sum_value size (header_lines headers) name ≡ Ok o
  sum_said size name o s = said (IsSumOf size) name (as_sum size) o refl (λ value sum e. ap sum_or_fault e) s

  pub flag_said : (name : List ℕ) (b : Bool) → IsFlag headers name b → true_value (header_lines headers) name ≡ Ok b
  flag_said name true g = ap (λ r. r >>= λ value. Ok (is_word (codes "true") value)) (value_given headers name (Some (codes "true")) are g)
  flag_said name false g =
      ap (λ r. r >>= λ value. Ok (is_word (codes "true") value)) (value_given headers name g.0 are g.1)
      ∙ ap (λ (b : Bool). Ok b) (other g.0 g.2)
    where
      other : (value : Option (List ℕ)) → value ≢ Some (codes "true") → is_word (codes "true") value ≡ false
      other None differs = refl
      other (Some value) differs =
          false_from_clash (bytes_eq value (codes "true")) (λ e. absurd (differs (ap (λ (v : List ℕ). Some v) (same_bytes value (codes "true") e))))

  pub given_said : (name : List ℕ) (o : Option (List ℕ)) → Gives headers name o → is_given (header_lines headers) name ≡ Ok (is_some o)
  given_said name o g = ap (λ r. r >>= λ value. Ok (is_some value)) (value_given headers name o are g)

  path_read : (value : List ℕ) (path : Path) → IsPathOf value path → path_of value ≡ Ok path
  path_read value path p = rw (p.utf8, sym p.names, no_path_fault path p.lawful p.bounded) refl

  pub path_said : (path : Path) → Says IsPathOf headers (codes "Node-path") (Some path) → path_value (header_lines headers) ≡ Ok path
  path_said path s =
      ap (λ r. r >>= λ value. path_of (unwrap_or value [])) (value_given headers (codes "Node-path") (Some s.0) are s.1) ∙ path_read s.0 path s.2

  pub kind_said : (o : Option Kind) → Says IsKindWord headers (codes "Node-kind") o → kind_value (header_lines headers) ≡ Ok o
  kind_said o s = said IsKindWord (codes "Node-kind") kind_of o refl by s
    where
      by : (value : List ℕ) (kind : Kind) → IsKindWord value kind → kind_of (Some value) ≡ Ok (Some kind)
      by value File e = ap (λ (v : List ℕ). kind_of (Some v)) e
      by value Directory e = ap (λ (v : List ℕ). kind_of (Some v)) e

  pub action_said : (action : Action) → Says IsActionWord headers (codes "Node-action") (Some action)
      → action_value (header_lines headers) ≡ Ok action
  action_said action s =
      ap (λ r. r >>= action_of) (value_given headers (codes "Node-action") (Some s.0) are s.1)
      ∙ ap (λ (v : List ℕ). action_of (Some v)) s.2 ∙ by action
    where
      by : (action : Action) → action_of (Some (action_word action)) ≡ Ok action
      by Add = refl
      by Change = refl
      by Delete = refl
      by Replace = refl

  pub source_said : (source : Option CopySource) → IsSourceOf headers source → source_value (header_lines headers) ≡ Ok source
  source_said None s =
      rw (number_said (codes "Node-copyfrom-rev") None s.0, value_given headers (codes "Node-copyfrom-path") None are s.1) refl
  source_said (Some source) s =
      rw (
        number_said (codes "Node-copyfrom-rev") (Some source.rev) s.0,
        value_given headers (codes "Node-copyfrom-path") (Some s.1.0) are s.1.1,
        path_read s.1.0 source.path s.1.2,
      ) refl
