-- The fields of commands that a report follows. What is after those named here is passed over.
--     asked_by driving fields      what the fields of such a command ask for
use Rattle.std.specs.Prelude.{ℕ, Bool, true, false, List, Option, Some, None}
use Rattle.svn_wire.specs.declared.token.Token.{Token}
use Rattle.svn_wire.specs.Fields.{◌>>=◌, bool_field, optional_number, text_field}
use Rattle.svn_served.specs.declared.wanted.Driving.{Driving}
use Rattle.svn_served.specs.declared.wanted.Driving.TheVariants.{Update, Switch, Status, Diff}

-- what all of these commands say
pub record Asked : Type 0 where
  pub rev : Option ℕ
  pub entry : List ℕ
  pub recurse : Bool
  pub url : Option (List ℕ)
  pub with_texts : Bool

-- a revision, or none, that may be left out at the end
abbrev pub last_rev : Option (Option ℕ × List Token) → Option ℕ
last_rev None = None
last_rev (Some rev) = rev.0

-- texts are wanted where that is left out at the end
abbrev pub last_texts : Option (Bool × List Token) → Bool
last_texts None = true
last_texts (Some with_texts) = with_texts.0

unfoldable pub update_asked : List Token → Option Asked
update_asked fields = do
  rev ← optional_number fields
  entry ← text_field rev.1
  recurse ← bool_field entry.1
  Some (record { rev = rev.0; entry = entry.0; recurse = recurse.0; url = None; with_texts = true })

unfoldable pub switch_asked : List Token → Option Asked
switch_asked fields = do
  rev ← optional_number fields
  entry ← text_field rev.1
  recurse ← bool_field entry.1
  url ← text_field recurse.1
  Some (record { rev = rev.0; entry = entry.0; recurse = recurse.0; url = Some url.0; with_texts = true })

unfoldable pub status_asked : List Token → Option Asked
status_asked fields = do
  entry ← text_field fields
  recurse ← bool_field entry.1
  Some (record { rev = last_rev (optional_number recurse.1); entry = entry.0; recurse = recurse.0; url = None; with_texts = false })

unfoldable pub diff_asked : List Token → Option Asked
diff_asked fields = do
  rev ← optional_number fields
  entry ← text_field rev.1
  recurse ← bool_field entry.1
  ignores_ancestry ← bool_field recurse.1
  url ← text_field ignores_ancestry.1
  Some (record { rev = rev.0; entry = entry.0; recurse = recurse.0; url = Some url.0; with_texts = last_texts (bool_field url.1) })

abbrev pub asked_by : Driving → List Token → Option Asked
asked_by Update fields = update_asked fields
asked_by Switch fields = switch_asked fields
asked_by Status fields = status_asked fields
asked_by Diff fields = diff_asked fields
