-- What the texts of a repository stand for: themselves, or texts of the dump that it was loaded from.
--     stands s held      whether one stands for a text of the dump, by its SHA-1 checksum
--     place_in index held      where that text is, by the dump's index
--     known_len s held, known_md5 s held      how long the text is that one stands for, and its MD5 checksum
--     IsText s held text      one stands for the text
--     IsSum s sum known      the checksum that is known of the text for which one stands that has this checksum
use Rattle.std.specs.Prelude.{◌≡◌, ℕ, Bool, true, false, ◌&&◌, List, [], length, drop, bytes_eq, Option, Some, None, option_map, option_and_then, unwrap_or, Result, Ok, Err, if◌then◌else◌, MatchBool}
use Rattle.std.specs.Option.{option_or}
use Rattle.hex.specs.Hex.{decode_sized}
use Rattle.md5.specs.Md5.{md5}
use Rattle.sha1.specs.Sha1.{sha1}
use Rattle.svn_digits.specs.StandIns.{stand_in, is_stand_in}
use Rattle.svn_dump.specs.declared.index.DumpIndex.{DumpIndex}
use Rattle.svn_dump.specs.declared.index.TextPlace.{TextPlace}
use Rattle.svn_dump.specs.Indexes.{place_of}
use Rattle.svn_replies.specs.declared.served.Holds.{Holds}
use Rattle.svn_replies.specs.declared.served.Holds.TheVariants.{Texts, StandIns}
use Rattle.svn_replies.specs.declared.served.Served.{Served}

abbrev pub by_stand_ins : Holds → Bool
by_stand_ins Texts = false
by_stand_ins StandIns = true

-- what hasn't the form of a stand-in is a text: that of no bytes too
abbrev pub stands : Served → List ℕ → Bool
stands s held = by_stand_ins s.holds && is_stand_in held

-- ---- by the index of the dump

abbrev pub value_of : {A E : Type 0} → Result A E → Option A
value_of (Ok x) = Some x
value_of (Err e) = None

-- the checksum that a stand-in has
abbrev pub sum_in : List ℕ → Option (List ℕ)
sum_in held = if is_stand_in held then value_of (decode_sized (drop 6 held) 20) else None

-- a dump need not give the text of no bytes
abbrev pub place_of_none : List ℕ → Option TextPlace
place_of_none sum = if bytes_eq sum (sha1 []) then Some (record { begin = 0; len = 0; md5 = md5 [] }) else None

abbrev pub place_by : DumpIndex → List ℕ → Option TextPlace
place_by index sum = option_or (place_of index sum) (place_of_none sum)

abbrev pub place_in : DumpIndex → List ℕ → Option TextPlace
place_in index held = option_and_then (place_by index) (sum_in held)

-- ---- what is known

abbrev pub known_len : Served → List ℕ → ℕ
known_len s held = if stands s held then unwrap_or (option_map (λ place. place.len) (place_in s.index held)) 0 else length held

abbrev pub known_md5 : Served → List ℕ → Option (List ℕ)
known_md5 s held = if stands s held then option_map (λ place. place.md5) (place_in s.index held) else Some (md5 held)

-- a text of the dump, by its checksums
pub record IsTextOf (index : DumpIndex) (held text : List ℕ) : Type 0 where
  pub place : TextPlace
  pub placed : place_in index held ≡ Some place
  pub sha1_is : stand_in text ≡ held
  pub md5_is : md5 text ≡ place.md5
  pub len_is : length text ≡ place.len

abbrev pub IsText : Served → List ℕ → List ℕ → Type 0
IsText s held text = MatchBool (stands s held) (IsTextOf s.index held text) (text ≡ held)

abbrev pub IsSum : Served → List ℕ → List ℕ → Type 0
IsSum s sum known = MatchBool (by_stand_ins s.holds) ((held : List ℕ) × (sum ≡ md5 held) × (known_md5 s held ≡ Some known)) (known ≡ sum)
