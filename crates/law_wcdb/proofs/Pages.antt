-- The pages of a file that is whole.
use Rattle.std.proofs.Common.{take, ◌<◌, ◌/◌, le-div_iff_mul-le, ◌≡◌, inl, inr, ℕ, zero, suc, ◌+◌, ◌-◌, ◌*◌, ◌≤◌, Bool, true, false, cond, List, Option, Some, None, Ok, Err, length, drop, sym, ap, subst, ◌∙◌, arith, length-drop, length-take-le, suc-mul}
use Rattle.std.proofs.lemmas.Bool.Decides.{Decides-and}
use Rattle.std.specs.Prelude.{nat_le, slice_index, not, nat_eq, ◌&&◌}
use Rattle.sqlite_format.specs.Bytes.{u16_at, u32_at}
use Rattle.sqlite_pages.specs.PageMap.{PageMap}
use Rattle.svn_wcdb.specs.declared.fault.Reason.TheVariants.{WriteAheadLog, Encoding, Format, CutOff}
use Rattle.svn_wcdb.specs.Images.{File, is_cut_off, has_header, written_size, file_of_size, checked_image, sized_image, image_of, page_in}
use Rattle.svn_wcdb.proofs.PageTests.{Decides-leb}
use Rattle.law_wcdb.proofs.Choices.{ok_same, err_ok, chosen, unless_fault, not_refused}

-- each page has so many bytes
abbrev pub AreSized : PageMap → ℕ → Type 0
AreSized pages usable = (n : ℕ) (page : List ℕ) → pages n ≡ Some page → length page ≡ usable

-- ---- a file that is whole

checked_same : (file found : File) → checked_image file ≡ Ok found → file ≡ found
checked_same file found read =
    let bytes = file.bytes in
    let whole = not_refused (is_cut_off file.size bytes) CutOff (Ok file) found in
    let format = not_refused (not (nat_eq (u32_at bytes 60) 31)) (Format (u32_at bytes 60)) (cond (is_cut_off file.size bytes) (Err CutOff) (Ok file)) found in
    let encoding = not_refused (not (nat_eq (u32_at bytes 56) 1)) Encoding _ found in
    let journal = not_refused (not (nat_eq (slice_index bytes 18) 1 && nat_eq (slice_index bytes 19) 1)) WriteAheadLog _ found in
    ok_same (whole (format (encoding (journal read))))

fits_reserved : (bytes : List ℕ) (size : ℕ) (found : File) (b : Bool)
    → sized_image (cond b (Some (record { size = size; usable = size - slice_index bytes 20; bytes = bytes })) None) ≡ Ok found → found.usable ≤ found.size
fits_reserved bytes size found false read = absurd (err_ok read)
fits_reserved bytes size found true read =
    let less : size - slice_index bytes 20 ≤ size = omega arith in
    let file : File = record { size = size; usable = size - slice_index bytes 20; bytes = bytes } in
    subst (λ (f : File). f.usable ≤ f.size) (checked_same file found read) less

fits_written : (bytes : List ℕ) (size : Option ℕ) (found : File) → sized_image (file_of_size bytes size) ≡ Ok found → found.usable ≤ found.size
fits_written bytes None found read = absurd (err_ok read)
fits_written bytes (Some size) found read = fits_reserved bytes size found (nat_le (480 + slice_index bytes 20) size) read

pub usable_fits : (bytes : List ℕ) (file : File) → image_of bytes ≡ Ok file → file.usable ≤ file.size
usable_fits bytes file read = fits_written bytes (written_size (u16_at bytes 16)) file (unless_fault (has_header bytes) _ _ _ read).1

-- ---- its pages

some_same : (x y : List ℕ) → Some x ≡ Some y → x ≡ y
some_same x y h = cc

none_some : (x : List ℕ) → None ≡ Some x → ⊥
none_some x h = cc

room : (n size len : ℕ) → 1 ≤ n → n * size ≤ len → size ≤ len - (n - 1) * size
room zero size len some within = absurd (omega (arith, some))
room (suc n) size len some within =
    let less : suc n - 1 ≡ n = omega arith in
    subst (λ k. size ≤ len - k * size) (sym less) (omega (arith, within, suc-mul n size))

pub page_inside : (file : File) (n : ℕ) (page : List ℕ) → page_in file n ≡ Some page
    → (1 ≤ n) × (n * file.size ≤ length file.bytes) × (take file.usable (drop ((n - 1) * file.size) file.bytes) ≡ page)
page_inside file n page there =
    elim (chosen (nat_le 1 n && nat_le (n * file.size) (length file.bytes)) _ _ _ there) [
      | inl inside ↦
          let within = (Decides-and _ _ (Decides-leb 1 n) (Decides-leb (n * file.size) (length file.bytes))).0 inside.0 in
          (within.0, within.1, some_same _ _ inside.1)
      | inr outside ↦ absurd (none_some page outside.1)
    ]

pub pages_sized : (file : File) → file.usable ≤ file.size → AreSized (page_in file) file.usable
pages_sized file fits n page there =
    let inside = page_inside file n page there in
    let rest = drop ((n - 1) * file.size) file.bytes in
    let enough = room n file.size (length file.bytes) inside.0 inside.1 in
    ap length (sym inside.2)
    ∙ length-take-le file.usable rest (omega (arith, fits, length-drop ((n - 1) * file.size) file.bytes, enough))

pub page_number_fits : (file : File) (n : ℕ) (page : List ℕ) → 0 < file.size → page_in file n ≡ Some page → (0 < n) × (n ≤ length file.bytes / file.size)
page_number_fits file n page size there =
    let inside = page_inside file n page there in
    (inside.0, (le-div_iff_mul-le size).1 inside.1)
