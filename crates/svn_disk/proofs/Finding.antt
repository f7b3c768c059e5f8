-- What is found at a path without reading its bytes, and which texts are known.
use Rattle.std.proofs.Common.{◌≡◌, ℕ, zero, suc, Bool, true, false, ◌||◌, ◌+◌, List, [], ◌∷◌, ◌++◌, length, get_or, take, ◌<◌, refl, sym, ◌∙◌, ap, subst, true≢false, arith}
use Rattle.std.specs.Prelude.{bytes_eq, cond, Option, Some, None, Result, Ok, Err, IfOk}
use Rattle.std.specs.Prelude as option
use Rattle.std.specs.Option.{option_map}
use Rattle.std.specs.List.{list_any}
use Rattle.svn_types.specs.Names.{Path}
use Rattle.svn_digits.specs.StandIns.{stand_in, stand_in_of}
use Rattle.svn_folder.specs.declared.entry.Mode.{Mode}
use Rattle.svn_folder.specs.declared.entry.Entry.{Entry}
use Rattle.svn_folder.specs.declared.entry.Entry.TheVariants.{File, Directory, Link}
use Rattle.svn_folder.specs.declared.summary.Summary.{Summary}
use Rattle.svn_folder.specs.declared.summary.Summary.TheVariants as summary
use Rattle.svn_folder.specs.declared.step.Step.{Step}
use Rattle.svn_folder.specs.Entries.{has_directory}
use Rattle.svn_folder.specs.States.{State, seen}
use Rattle.svn_folder.specs.Steps.{run, IsEmpty}
use Rattle.svn_folder.specs.Summaries.{summary_of, Sums, Lists}
use Rattle.svn_folder.specs.Pasts.{Past, Known}
use Rattle.svn_types.specs.Paths.{child}
use Rattle.svn_disk.specs.declared.on_disk.Found.{Found}
use Rattle.svn_disk.specs.declared.on_disk.Found.TheVariants as found
use Rattle.svn_disk.specs.Goes.{IsAlways}
use Rattle.svn_disk.specs.Crashes.{HasBytes}
use Rattle.svn_disk.specs.Readings.{IsReading, IsKeyword, AreEnds, Rewrites}
use Rattle.svn_disk.specs.Spared.{IsOwn, HasReading, link_text}
use Rattle.svn_disk.specs.Finding.{IsFound, IsLeafOf, SumsTo, IsReadingOf, AreReadings}
use Rattle.svn_disk.proofs.Rewriting.{rewrites_all}

-- ---- a summary

in_some : Summary → Option Summary → Summary
in_some d (Some x) = x
in_some d None = d

is_some : Option Summary → Bool
is_some (Some x) = true
is_some None = false

entry_found : (f : Found) (e : Entry) → SumsTo (summary_of e) f → IsFound f (Some e)
entry_found f (File bytes mode) to = subst (λ (x : Found). IsFound x (Some (File bytes mode))) (sym to) refl
entry_found f Directory to = subst (λ (x : Found). IsFound x (Some Directory)) (sym to) refl
entry_found f (Link target) to = subst (λ (x : Found). IsFound x (Some (Link target))) (sym to) refl

summed_found : (what : Summary) (f : Found) (found : Option Entry) → SumsTo what f → Some what ≡ option_map summary_of found → IsFound f found
unfolding in_some is_some
summed_found what f (Some e) to same = entry_found f e (subst (λ (x : Summary). SumsTo x f) (ap (in_some what) same) to)
summed_found what f None to same = absurd (true≢false (ap is_some same))

nothing_found : (found : Option Entry) → None ≡ option_map summary_of found → found ≡ None
unfolding is_some
nothing_found (Some e) same = absurd (true≢false (sym (ap is_some same)))
nothing_found None same = refl

pub sums_found : {E : Type 0} → (now : Past) (p : Path) (what : Summary) (result : Result Found E) → Sums now p (Some what)
    → IfOk result (SumsTo what) → IfOk result (λ f. IsAlways (λ s. IsFound f (seen s p)) now)
sums_found now p what (Ok f) sums to = λ s steps is. summed_found what f (seen (run s steps) p) to (subst (λ (x : Past). Sums x p (Some what)) is sums)
sums_found now p what (Err fault) sums to = tt

pub sums_nothing : (now : Past) (p : Path) → Sums now p None → IsAlways (λ s. IsFound found.Nothing (seen s p)) now
sums_nothing now p sums s steps is = nothing_found (seen (run s steps) p) (subst (λ (x : Past). Sums x p None) is sums)

-- ---- what is the copy's

pub reading_same : (bytes : List ℕ) → IsReading bytes bytes
reading_same bytes = record { plain = bytes; without = rewrites_all IsKeyword bytes; ends = rewrites_all AreEnds bytes }

module _ (known : List ℕ → Bool) where
  nothing_own : (found : Option Entry) → found ≡ None → IsOwn known found
  nothing_own found is = subst (IsOwn known) (sym is) tt

  directory_own : (found : Option Entry) → found ≡ Some Directory → IsOwn known found
  directory_own found is = subst (IsOwn known) (sym is) tt

  leaf_own : (name : List ℕ) (found : Option Entry) → known name ≡ true → IsLeafOf name found → IsOwn known found
  leaf_own name None is leaf = absurd leaf
  leaf_own name (Some (File bytes mode)) is leaf = record { text = bytes; is = reading_same bytes; is_known = ap known leaf ∙ is }
  leaf_own name (Some Directory) is leaf = absurd leaf
  leaf_own name (Some (Link target)) is leaf = ap known leaf ∙ is

  reading_own : (name : List ℕ) (found : Option Entry) → known name ≡ true → IsReadingOf found name → IsOwn known found
  reading_own name found is reading =
      subst (IsOwn known) (sym reading.is_file) (record { text = reading.text; is = reading.is; is_known = ap known reading.named ∙ is })

  pub nothing_owns : (now : Past) (p : Path) → IsAlways (λ s. IsFound found.Nothing (seen s p)) now → IsAlways (λ s. IsOwn known (seen s p)) now
  nothing_owns now p always s steps is = nothing_own (seen (run s steps) p) (always s steps is)

  pub directory_owns : (now : Past) (p : Path) → IsAlways (λ s. IsFound found.Directory (seen s p)) now → IsAlways (λ s. IsOwn known (seen s p)) now
  directory_owns now p always s steps is = directory_own (seen (run s steps) p) (always s steps is)

  pub leaf_owns : (now : Past) (p : Path) (name : List ℕ) → known name ≡ true → IsAlways (λ s. IsFound (found.Leaf name) (seen s p)) now
      → IsAlways (λ s. IsOwn known (seen s p)) now
  leaf_owns now p name is always s steps past = leaf_own name (seen (run s steps) p) is (always s steps past)

  pub reading_owns : (now : Past) (p : Path) (name : List ℕ) → known name ≡ true → IsAlways (λ s. IsReadingOf (seen s p) name) now
      → IsAlways (λ s. IsOwn known (seen s p)) now
  reading_owns now p name is always s steps past = reading_own name (seen (run s steps) p) is (always s steps past)

-- ---- texts that a file may be

pub reading_at : (names : List (List ℕ)) (i : ℕ) (name : List ℕ) (found : Option Entry) → i < length names → name ≡ get_or names i name → AreReadings names found
    → IsReadingOf found name
reading_at [] i name found below is all = absurd (omega arith)
reading_at (first ∷ names) zero name found below is all = subst (IsReadingOf found) (sym is) all.0
reading_at (first ∷ names) (suc i) name found below is all = reading_at names i name found (omega arith) is all.1

pub readings_none : (now : Past) (p : Path) → IsAlways (λ s. AreReadings [] (seen s p)) now
readings_none now p s steps is = tt

-- the three that are tried
pub readings_all : (now : Past) (p : Path) (bytes plain unix others : List ℕ) → IsAlways (λ s. HasBytes bytes (seen s p)) now → Rewrites IsKeyword bytes plain
    → Rewrites AreEnds plain unix → Rewrites AreEnds plain others → IsAlways (λ s. AreReadings (stand_in plain ∷ stand_in unix ∷ stand_in others ∷ []) (seen s p)) now
readings_all now p bytes plain unix others always without first second s steps is =
    let (mode, file) = always s steps is in (
      record { bytes = bytes; text = plain; mode = mode; is_file = file; is = record { plain = plain; without = without; ends = rewrites_all AreEnds plain }; named = refl },
      (
        record { bytes = bytes; text = unix; mode = mode; is_file = file; is = record { plain = plain; without = without; ends = first }; named = refl },
        (record { bytes = bytes; text = others; mode = mode; is_file = file; is = record { plain = plain; without = without; ends = second }; named = refl }, tt),
      ),
    )

module _ (now : Past) (p : Path) (bytes shown plain unix others : List ℕ) (always : IsAlways (λ s. HasBytes bytes (seen s p)) now) (shown_is : shown ≡ bytes)
    (without : Rewrites IsKeyword shown plain) where
  -- the same, of texts that are known to be these
  pub readings_three : (of_plain of_unix of_others more again one two three : List ℕ) → of_plain ≡ plain → of_unix ≡ unix → of_others ≡ others → more ≡ plain
      → again ≡ plain → one ≡ stand_in of_plain → two ≡ stand_in of_unix → three ≡ stand_in of_others → Rewrites AreEnds more unix → Rewrites AreEnds again others
      → (names : List (List ℕ)) → names ≡ one ∷ two ∷ three ∷ [] → IsAlways (λ s. AreReadings names (seen s p)) now
  readings_three of_plain of_unix of_others more again one two three a b c d e f g h first second names is =
      let same : stand_in plain ∷ stand_in unix ∷ stand_in others ∷ [] ≡ names = cc in
      subst (λ (xs : List (List ℕ)). IsAlways (λ s. AreReadings xs (seen s p)) now) same
      (readings_all now p bytes plain unix others always (subst (λ (x : List ℕ). Rewrites IsKeyword x plain) shown_is without)
      (subst (λ (x : List ℕ). Rewrites AreEnds x unix) d first) (subst (λ (x : List ℕ). Rewrites AreEnds x others) e second))

-- ---- an empty directory

pub listed_empty : (now : Past) (p : Path) (names : List (List ℕ)) → Lists now p names → names ≡ [] → IsAlways (λ s. IsEmpty s p) now
listed_empty now p names lists none s steps is name =
    unseen (seen (run s steps) (child p name))
    (sym ((subst (λ (x : Past). Lists x p names) is lists).each name) ∙ ap (list_any (λ n. bytes_eq n name)) none)
  where
    unseen : (found : Option Entry) → option.is_some found ≡ false → found ≡ None
    unseen (Some e) h = absurd (true≢false h)
    unseen None h = refl

pub directory_there : (now : Past) (p : Path) → IsAlways (λ s. IsFound found.Directory (seen s p)) now → IsAlways (λ s. IsEmpty s p) now
    → IsAlways (λ s. (has_directory (seen s p) ≡ true) × IsEmpty s p) now
directory_there now p always none s steps is = (ap has_directory (always s steps is), none s steps is)
