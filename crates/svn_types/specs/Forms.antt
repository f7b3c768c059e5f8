-- What names, texts, keys and the lists of names hold, wherever they lie.
use Rattle.std.specs.Prelude.{◌≡◌, ℕ, ◌≤◌, ◌/◌, ◌%◌, List, [], length, take, drop, ⊤}
use Rattle.std.specs.Arc.{arc_value, arc_str_bytes}
use Rattle.svn_types.specs.declared.small_text.NameForm.{NameForm}
use Rattle.svn_types.specs.declared.small_text.NameForm.TheVariants as name
use Rattle.svn_types.specs.declared.text.TextForm.{TextForm}
use Rattle.svn_types.specs.declared.text.TextForm.TheVariants as text
use Rattle.svn_types.specs.declared.path_key.KeyForm.{KeyForm}
use Rattle.svn_types.specs.declared.path_key.KeyForm.TheVariants as key
use Rattle.svn_types.specs.declared.cut.Cut.{Cut}
use Rattle.svn_types.specs.declared.path_front.PathFront.{PathFront}
use Rattle.svn_types.specs.declared.path_head.Head.{Head}
use Rattle.svn_types.specs.declared.path_form.PathForm.{PathForm}
use Rattle.svn_types.specs.declared.path_form.PathForm.TheVariants as form
use Rattle.svn_types.specs.declared.path_size.Size.{Size}
use Rattle.svn_types.specs.declared.path_size.Size.TheVariants as size
use Rattle.svn_types.specs.PathKeys.{path_key}

abbrev pub name_bytes : NameForm → List ℕ
name_bytes (name.Short s) = s
name_bytes (name.Long s) = arc_str_bytes s

abbrev pub text_bytes : TextForm → List ℕ
text_bytes (text.Short s) = s
text_bytes (text.ShortSummed s) = s
text_bytes (text.Own v) = v.items
text_bytes (text.Shared a) = arc_value a

abbrev pub key_bytes : KeyForm → List ℕ
key_bytes (key.Short s) = s
key_bytes (key.Long v) = v.items

-- all names of a path's block
abbrev pub names_in : PathForm → List (List ℕ)
names_in form.Root = []
names_in (form.One a) = arc_value a
names_in (form.Two a) = arc_value a
names_in (form.Three a) = arc_value a
names_in (form.Few a) = arc_value a
names_in (form.Several a) = arc_value a
names_in (form.More a) = arc_value a
names_in (form.Many a) = arc_value a
names_in (form.Long a) = arc_value a

-- a block of that size has room for that many names and a key of that many bytes
abbrev pub HasRoom : Size → ℕ → ℕ → Type 0
HasRoom size.Few count len = (count ≤ 4) × (len ≤ 62)
HasRoom size.Several count len = (count ≤ 6) × (len ≤ 78)
HasRoom size.More count len = (count ≤ 8) × (len ≤ 94)
HasRoom size.Many count len = (count ≤ 12) × (len ≤ 142)
HasRoom size.Long count len = ⊤

-- the head of a path and what it leaves out, which lie in the path itself: below the second number of the head a byte for the names, and one for
-- the bytes
abbrev pub below_head : ℕ
below_head = 65536

abbrev pub head_in : PathFront → Head
head_in f = record { first = f.first; second = f.rest / below_head }

abbrev pub cut_in : PathFront → Cut
cut_in f = record { names = f.rest / 256 % 256; bytes = f.rest % 256 }

-- no path leaves out more names and bytes
abbrev pub IsSmallCut : Cut → Type 0
IsSmallCut c = (c.names ≤ 4) × (c.bytes ≤ 64)

-- of the names of its block a path has those that aren't left out at the front
abbrev pub path_in : Cut → List (List ℕ) → List (List ℕ)
path_in c names = drop c.names names

-- what is left out are names of the block, and as many bytes of its key as these have
abbrev pub IsCut : Cut → List (List ℕ) → Type 0
IsCut c names = (c.names ≤ length names) × (c.bytes ≡ length (path_key (take c.names names)))
