-- The index of a site for programs (JSON, RFC 8259).
use Rattle.std.specs.Prelude.{ℕ, ◌==◌, List, [], ◌∷◌, ◌++◌, codes, if◌then◌else◌}
use Rattle.std.specs.Fmt.{decimal}
use Rattle.std.specs.List.{flat_map}
use Rattle.reg_site.specs.declared.index_tree.Register.{Register}
use Rattle.reg_site.specs.declared.summary.Summary.{Summary}

-- ---- Texts

-- what stands for a byte of a text that has no control characters (RFC 8259 section 7)
abbrev pub json_byte : ℕ → List ℕ
json_byte b = if b == 34 then codes "\\\"" else if b == 92 then codes "\\\\" else b ∷ []

abbrev pub json_text : List ℕ → List ℕ
json_text text = flat_map json_byte text

-- ---- A register

-- the places of the files of a register
abbrev pub files_text : List ℕ → List ℕ
files_text name =
    codes "\"registries/" ++ (name ++ (codes ".html\",\"registries/" ++ (name
    ++ (codes ".csv\",\"registries/" ++ (name ++ (codes ".json\",\"registries/" ++ (name
    ++ codes ".xml\"")))))))

-- how many of its values stand how
abbrev pub counts_text : Summary → List ℕ
counts_text s =
    codes "\"assigned\":" ++ (decimal s.assigned ++ (codes ",\"temporary\":" ++ (decimal s.temporary
    ++ (codes ",\"expired\":" ++ (decimal s.expired ++ (codes ",\"free\":" ++ (decimal s.free
    ++ (codes ",\"set_aside\":" ++ (decimal s.set_aside ++ (codes ",\"reserved\":"
    ++ decimal s.reserved))))))))))

-- a register beside others: its counts, and the moment of its last change
abbrev pub IndexRow : Type 0
IndexRow = Summary × List ℕ

-- the same as the code has it, without where it lies in memory
abbrev pub row_of : Register → IndexRow
row_of r = (r.summary.now, r.changed.now)

-- a register: its name, its files, its counts, and the moment of its last change
abbrev pub register_text : List ℕ → List ℕ → List ℕ → List ℕ → List ℕ
register_text name files counts changed =
    codes "{\"name\":\"" ++ (name ++ (codes "\",\"files\":[" ++ (files ++ (codes "]," ++ (counts
    ++ (codes ",\"changed\":\"" ++ (changed ++ codes "\"}")))))))

abbrev pub register : IndexRow → List ℕ
register r = register_text r.0.name (files_text r.0.name) (counts_text r.0) r.1

-- each of these registers after a comma and a line feed, and then the rest
abbrev pub next_then : IndexRow → List ℕ → List ℕ
next_then r rest = codes ",\n" ++ (register r ++ rest)

abbrev pub more_then : List IndexRow → List ℕ → List ℕ
more_then [] rest = rest
more_then (r ∷ more) rest = next_then r (more_then more rest)

-- registers with a comma and a line feed between them, and then the rest
abbrev pub registers_then : List IndexRow → List ℕ → List ℕ
registers_then [] rest = rest
registers_then (r ∷ more) rest = register r ++ more_then more rest

-- ---- The file

-- what stands between the title and the registers
abbrev pub front_rest : List ℕ → ℕ → List ℕ → List ℕ
front_rest moment changes digest =
    codes "\",\"moment\":\"" ++ (moment ++ (codes "\",\"changes\":" ++ (decimal changes
    ++ (codes ",\"digest\":\"" ++ (digest ++ codes "\",\"registers\":[\n")))))

-- the bytes of the index for programs: the title, the moment, how many changes there are, the digest of the
-- last one, and the registers
unfoldable pub index_tree : List ℕ → List ℕ → ℕ → List ℕ → List IndexRow → List ℕ
index_tree title moment changes digest rows =
    codes "{\"title\":\""
    ++ (json_text title
    ++ (front_rest moment changes digest ++ registers_then rows (codes "]}\n")))
