-- Database files: their header and their pages (fileformat2.html, section 1.3).
--     image_of bytes      the bytes as a file of format 31 that is whole, or why they are none
--     page_in file n      what is used of page n of such a file, counted from 1
use Rattle.std.specs.Prelude.{ℕ, ◌+◌, ◌-◌, ◌*◌, ◌%◌, ◌/◌, Bool, ◌&&◌, ◌||◌, not, List, [], ◌∷◌, length, take, drop, slice_index, nat_eq, nat_le, nat_lt, bytes_eq, codes}
use Rattle.std.specs.Prelude.{Option, Some, None, Result, Ok, Err, if◌then◌else◌, ◌++◌}
use Rattle.sqlite_format.specs.Bytes.{u16_at, u32_at}
use Rattle.svn_wcdb.specs.declared.fault.Reason.{Reason}
use Rattle.svn_wcdb.specs.declared.pages.Image.{Image}
use Rattle.svn_wcdb.specs.declared.fault.Reason.TheVariants.{NotADatabase, PageSize, WriteAheadLog, Encoding, Format, CutOff}

-- a header of 100 bytes, which begins with `SQLite format 3` and a 0
abbrev pub has_header : List ℕ → Bool
has_header bytes = nat_le 100 (length bytes) && bytes_eq (take 16 bytes) (codes "SQLite format 3" ++ 0 ∷ [])

abbrev pub is_power : ℕ → Bool
is_power n =
    nat_eq n 512 || nat_eq n 1024 || nat_eq n 2048 || nat_eq n 4096 || nat_eq n 8192 || nat_eq n 16384 || nat_eq n 32768

-- the size of a page, which is written as 1 where it is 65536
abbrev pub written_size : ℕ → Option ℕ
written_size n = if nat_eq n 1 then Some 65536 else if is_power n then Some n else None

-- a file: how many bytes a page has, and how many of these are used
pub record File : Type 0 where
  pub size : ℕ
  pub usable : ℕ
  pub bytes : List ℕ

-- as the code has it
abbrev pub seen_file : Image → File
seen_file image = record { size = image.size; usable = image.usable; bytes = image.bytes.now }

-- bytes at the end of each page may be reserved, as many as the header says; 480 or more must be left
abbrev pub with_reserved : List ℕ → ℕ → Option File
with_reserved bytes size =
    if nat_le (480 + slice_index bytes 20) size then Some (record { size = size; usable = size - slice_index bytes 20; bytes = bytes }) else None

abbrev pub file_of_size : List ℕ → Option ℕ → Option File
file_of_size bytes None = None
file_of_size bytes (Some size) = with_reserved bytes size

abbrev pub file_in : List ℕ → Option File
file_in bytes = file_of_size bytes (written_size (u16_at bytes 16))

-- the number of pages in the header counts if the file's change counter is the one that it was written with
abbrev pub says_more : List ℕ → ℕ → Bool
says_more bytes pages = nat_eq (u32_at bytes 24) (u32_at bytes 92) && nat_lt pages (u32_at bytes 28)

abbrev pub is_cut_off : ℕ → List ℕ → Bool
is_cut_off size bytes = not (nat_eq (length bytes % size) 0) || says_more bytes (length bytes / size)

abbrev pub checked_image : File → Result File Reason
checked_image file =
    if not (nat_eq (slice_index file.bytes 18) 1 && nat_eq (slice_index file.bytes 19) 1) then Err WriteAheadLog
    else if not (nat_eq (u32_at file.bytes 56) 1) then Err Encoding
    else if not (nat_eq (u32_at file.bytes 60) 31) then Err (Format (u32_at file.bytes 60))
    else if is_cut_off file.size file.bytes then Err CutOff
    else Ok file

abbrev pub sized_image : Option File → Result File Reason
sized_image None = Err PageSize
sized_image (Some file) = checked_image file

abbrev pub image_of : List ℕ → Result File Reason
image_of bytes = if has_header bytes then sized_image (file_in bytes) else Err NotADatabase

abbrev pub page_in : File → ℕ → Option (List ℕ)
page_in file n =
    if nat_le 1 n && nat_le (n * file.size) (length file.bytes) then Some (take file.usable (drop ((n - 1) * file.size) file.bytes)) else None
