-- A record: its headers, and what they begin.
use Rattle.std.proofs.Common.{◌≡◌, ◌≢◌, ℕ, List, [], ◌∷◌, Option, Some, None, Result, Ok, Err, refl, sym, ap, subst, ◌∙◌, false}
use Rattle.svn_dump.specs.declared.fault.DumpFault.{DumpFault}
use Rattle.svn_dump.specs.declared.record.Record.{Record}
use Rattle.svn_dump.specs.declared.record.Record.TheVariants.{Node}
use Rattle.svn_dump.specs.declared.record.NodeRecord.{NodeRecord}
use Rattle.svn_dump.specs.declared.record.PropSection.{PropSection}
use Rattle.svn_dump.specs.declared.record.TextSection.{TextSection}
use Rattle.svn_dump.specs.declared.shape.Shape.{Shape}
use Rattle.svn_dump.specs.declared.shape.Lengths.{Lengths}
use Rattle.svn_dump.specs.declared.sections.Limits.{Limits}
use Rattle.svn_dump.specs.declared.sections.Texts.{Texts}
use Rattle.svn_dump.specs.Reading.{◌>>=◌, Fails, Reads}
use Rattle.svn_dump.specs.Blocks.{block_at}
use Rattle.svn_dump.specs.Shapes.{lengths_of, shape_of}
use Rattle.svn_dump.specs.Sections.{Read, after_sections, prop_section_at, text_section_at}
use Rattle.svn_dump.specs.Records.{node_of, node_at, passed_at, headed_at, record_after, record_at}
use Rattle.svn_dump.proofs.Sequences.{fails_first, reads_fault, reads_then, reads_made, known_first}

-- ---- what the headers begin

-- a node with its sections
abbrev with_sections : NodeRecord → Option PropSection → Option TextSection → Record
with_sections node props text =
    Node (record { path = node.path; kind = node.kind; action = node.action; source = node.source; props = props; text = text })

abbrev text_after : Limits → Texts → NodeRecord → Shape → Option PropSection → List ℕ → Read Record
text_after limits texts node shape props bytes =
    text_section_at shape texts limits.text bytes >>= λ text. Ok (with_sections node props text.0, text.1)

abbrev sections_after : Limits → Texts → NodeRecord → Shape → List ℕ → Read Record
sections_after limits texts node shape bytes =
    prop_section_at shape limits.props bytes >>= λ props. text_after limits texts node shape props.0 props.1

-- the headers of a node, and both sections
pub whole_node : (limits : Limits) (texts : Texts) (block : List ℕ) (old mid new : Option (List ℕ)) (node : NodeRecord) (shape : Shape)
    (props : Option PropSection) (text : Option TextSection) → node_of block ≡ Ok node → shape_of block ≡ Ok shape
    → Reads (λ s. s) old mid (Ok props) (prop_section_at shape limits.props)
    → Reads (λ s. s) mid new (Ok text) (text_section_at shape texts limits.text)
    → Reads (λ r. r) old new (Ok (with_sections node props text)) (node_at limits texts block)
unfolding node_at
whole_node limits texts block old mid new node shape props text n s p t =
    let whole : Result Record DumpFault = Ok (with_sections node props text) in
    known_first (λ (x : NodeRecord). x) (λ (r : Record). r) old new node whole (node_of block)
    (λ (x : NodeRecord) (bs : List ℕ). shape_of block >>= λ y. sections_after limits texts x y bs) n
    (known_first (λ (x : Shape). x) (λ (r : Record). r) old new shape whole (shape_of block)
    (λ (y : Shape) (bs : List ℕ). sections_after limits texts node y bs) s
    (reads_then (λ (x : Option PropSection). x) (λ (r : Record). r) old mid new props whole (prop_section_at shape limits.props)
    (text_after limits texts node shape) p
    (reads_made (λ (x : Option TextSection). x) (λ (r : Record). r) (with_sections node props) mid new text (with_sections node props text)
    (text_section_at shape texts limits.text) t refl)))

-- the text section can't be read
pub text_fault : (limits : Limits) (texts : Texts) (block : List ℕ) (old mid new : Option (List ℕ)) (node : NodeRecord) (shape : Shape)
    (props : Option PropSection) (e : DumpFault) → node_of block ≡ Ok node → shape_of block ≡ Ok shape
    → Reads (λ s. s) old mid (Ok props) (prop_section_at shape limits.props)
    → Reads (λ (s : Option TextSection). s) mid new (Err e) (text_section_at shape texts limits.text)
    → Reads (λ r. r) old new (Err e) (node_at limits texts block)
unfolding node_at
text_fault limits texts block old mid new node shape props e n s p t =
    let refused : Result Record DumpFault = Err e in
    known_first (λ (x : NodeRecord). x) (λ (r : Record). r) old new node refused (node_of block)
    (λ (x : NodeRecord) (bs : List ℕ). shape_of block >>= λ y. sections_after limits texts x y bs) n
    (known_first (λ (x : Shape). x) (λ (r : Record). r) old new shape refused (shape_of block)
    (λ (y : Shape) (bs : List ℕ). sections_after limits texts node y bs) s
    (reads_then (λ (x : Option PropSection). x) (λ (r : Record). r) old mid new props refused (prop_section_at shape limits.props)
    (text_after limits texts node shape) p
    (reads_fault (λ (x : Option TextSection). x) (λ (r : Record). r) mid new e (text_section_at shape texts limits.text)
    (λ text. Ok (with_sections node props text.0, text.1)) t)))

-- sections that are passed over end too soon
pub passed_fault : (what : Record) (block : List ℕ) (old new : Option (List ℕ)) (lengths : Lengths) (e : DumpFault) → lengths_of block ≡ Ok lengths
    → Reads (λ (u : Unit {0}). u) old new (Err e) (after_sections lengths) → Reads (λ r. r) old new (Err e) (passed_at what block)
passed_fault what block old new lengths e known h =
    known_first (λ (l : Lengths). l) (λ (r : Record). r) old new lengths (Err e) (lengths_of block)
    (λ (l : Lengths) (bs : List ℕ). after_sections l bs >>= λ read. Ok (what, read.1)) known
    (reads_fault (λ (u : Unit {0}). u) (λ (r : Record). r) old new e (after_sections lengths) (λ read. Ok (what, read.1)) h)

-- ---- the headers, and what they begin

-- a list that isn't other than empty
pub is_nothing : (xs : List ℕ) → (xs ≢ [] → ⊥) → xs ≡ []
is_nothing [] none = refl
is_nothing (x ∷ xs) none = absurd (none (λ (e : x ∷ xs ≡ []). cc))

-- where there are headers they begin a record
headed : (limits : Limits) (texts : Texts) (block rest : List ℕ) → block ≢ []
    → record_after limits texts block rest ≡ (headed_at limits texts block rest >>= λ read. Ok (Some read.0, read.1))
headed limits texts [] rest some = absurd (some refl)
headed limits texts (b ∷ block) rest some = refl

-- no headers are the end
pub no_record : {X : Type 0} (view : X → List ℕ) (limits : Limits) (texts : Texts) (old new : Option (List ℕ)) (x : X)
    → Reads view old new (Ok x) (block_at false limits.headers) → view x ≡ [] → Reads (λ r. r) old new (Ok None) (record_at limits texts)
unfolding record_at
no_record view limits texts None new x h e = tt
no_record view limits texts (Some bytes) None x h e = absurd h
no_record view limits texts (Some bytes) (Some rest) x h e =
    ap (λ r. r >>= λ block. record_after limits texts block.0 block.1) h ∙ ap (λ (block : List ℕ). record_after limits texts block rest) e

-- the headers can't be read
pub no_headers : {X : Type 0} (view : X → List ℕ) (limits : Limits) (texts : Texts) (old new : Option (List ℕ)) (e : DumpFault)
    → Reads view old new (Err e) (block_at false limits.headers) → Reads (λ r. r) old new (Err e) (record_at limits texts)
unfolding record_at
no_headers view limits texts None new e h = tt
no_headers view limits texts (Some bytes) None e h =
    fails_first e (block_at false limits.headers bytes) (λ block. record_after limits texts block.0 block.1) h
no_headers view limits texts (Some bytes) (Some rest) e h =
    fails_first e (block_at false limits.headers bytes) (λ block. record_after limits texts block.0 block.1) h

-- the record that they begin
pub one_record : {X : Type 0} (view : X → List ℕ) (limits : Limits) (texts : Texts) (old mid new : Option (List ℕ)) (x : X) (record_read : Record)
    → Reads view old mid (Ok x) (block_at false limits.headers) → view x ≢ []
    → Reads (λ r. r) mid new (Ok record_read) (headed_at limits texts (view x)) → Reads (λ r. r) old new (Ok (Some record_read)) (record_at limits texts)
unfolding record_at
one_record view limits texts None mid new x r h some k = tt
one_record view limits texts (Some bytes) None new x r h some k = absurd h
one_record view limits texts (Some bytes) (Some rest) None x r h some k = absurd k
one_record view limits texts (Some bytes) (Some rest) (Some left) x r h some k =
    ap (λ read. read >>= λ block. record_after limits texts block.0 block.1) h ∙ headed limits texts (view x) rest some
    ∙ ap (λ read. read >>= λ found. Ok (Some found.0, found.1)) k

fails_then : (limits : Limits) (texts : Texts) (bytes block rest : List ℕ) (e : DumpFault) → block_at false limits.headers bytes ≡ Ok (block, rest)
    → block ≢ [] → Fails e (headed_at limits texts block rest) → Fails e (record_at limits texts bytes)
unfolding record_at
fails_then limits texts bytes block rest e h some k =
    let step : (headed_at limits texts block rest >>= λ found. Ok (Some found.0, found.1)) ≡ record_at limits texts bytes =
    sym (ap (λ read. read >>= λ b. record_after limits texts b.0 b.1) h ∙ headed limits texts block rest some) in
    subst (λ read. Fails e read) step (fails_first e (headed_at limits texts block rest) (λ found. Ok (Some found.0, found.1)) k)

-- it can't be read
pub bad_record : {X : Type 0} (view : X → List ℕ) (limits : Limits) (texts : Texts) (old mid new : Option (List ℕ)) (x : X) (e : DumpFault)
    → Reads view old mid (Ok x) (block_at false limits.headers) → view x ≢ []
    → Reads (λ r. r) mid new (Err e) (headed_at limits texts (view x)) → Reads (λ r. r) old new (Err e) (record_at limits texts)
bad_record view limits texts None mid new x e h some k = tt
bad_record view limits texts (Some bytes) None new x e h some k = absurd h
bad_record view limits texts (Some bytes) (Some rest) None x e h some k = fails_then limits texts bytes (view x) rest e h some k
bad_record view limits texts (Some bytes) (Some rest) (Some left) x e h some k = fails_then limits texts bytes (view x) rest e h some k
