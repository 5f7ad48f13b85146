-- What is wrong in a published folder, as it is said to people.
use Rattle.std.specs.Prelude.{ℕ, ◌&&◌, Bool, List, ◌++◌, codes, nat_le, nat_lt, if◌then◌else◌, string_bytes}
use Rattle.std.specs.Fmt.{decimal}
use Rattle.std.specs.List.{list_all}
use Rattle.reg_verify.specs.Parts.{place_of}
use Rattle.reg_verify.specs.declared.part.FolderPart.{FolderPart}
use Rattle.reg_changes.specs.declared.change.Class.{Class}
use Rattle.reg_changes.specs.declared.change.Class.TheVariants as class
use Rattle.reg_changes.specs.declared.change.Subject.{Subject}
use Rattle.reg_history.specs.declared.history.Unreadable.{Unreadable}
use Rattle.reg_history.specs.declared.history.Unreadable.TheVariants as unreadable
use Rattle.reg_verify.specs.declared.folder.UnreadFile.{UnreadFile}
use Rattle.reg_verify.specs.declared.folder.UnreadFile.TheVariants as unread
use Rattle.reg_verify.specs.declared.flaw.FolderFlaw.{FolderFlaw}
use Rattle.reg_verify.specs.declared.flaw.FolderFlaw.TheVariants as flaw
use Rattle.reg_verify.specs.declared.flaw.Unverified.{Unverified}
use Rattle.reg_verify.specs.declared.flaw.Unverified.TheVariants as un

-- a byte that any terminal shows
abbrev pub is_printable : ℕ → Bool
is_printable b = nat_le 32 b && nat_lt b 127

-- a text of such bytes as it is, and a question mark for any other
abbrev pub plain : List ℕ → List ℕ
plain text = if list_all is_printable text then text else codes "?"

-- the file that a subject is in
abbrev pub file_by_class : Class → List ℕ → List ℕ
file_by_class class.Range registry = codes "registries/" ++ (plain registry ++ codes ".json")
file_by_class class.Entry registry = codes "registries/" ++ (plain registry ++ codes ".json")
file_by_class class.Prefix registry = codes "pool.json"
file_by_class class.Block registry = codes "blocks.csv"

abbrev pub subject_file : Subject → List ℕ
subject_file subject = file_by_class subject.class subject.registry

abbrev pub subject_text : Subject → List ℕ
subject_text subject =
    subject_file subject ++ (codes " differs from the history at " ++ plain subject.value)

abbrev pub missing_text : FolderPart → List ℕ
missing_text file = place_of file ++ codes " is not there"

abbrev pub misspelt_text : FolderPart → List ℕ
misspelt_text file = place_of file ++ codes " is not as publish writes it"

abbrev pub listing_flaw : List ℕ → List ℕ
listing_flaw name =
    codes "registries/" ++ (name ++ (codes ".csv is not the listing of registries/"
    ++ (name ++ codes ".json")))

abbrev pub stray_text : List ℕ → List ℕ
stray_text file =
    codes "registries/" ++ (plain file ++ codes " is of no registry of the history")

-- what is said of it
abbrev pub flaw_text : FolderFlaw → List ℕ
flaw_text (flaw.Missing file) = missing_text file
flaw_text flaw.Header = codes "changes.csv does not begin with the header of a history"
flaw_text (flaw.Record number) =
    codes "record " ++ (decimal number ++ codes " of changes.csv is wrong")
flaw_text flaw.Name = codes "changes.csv has a registry whose name is none"
flaw_text flaw.Index = codes "index.json names a record that changes.csv does not have"
flaw_text (flaw.Misspelt file) = misspelt_text file
flaw_text flaw.Unnamed = codes "index.json names no record"
flaw_text (flaw.Listing name) = listing_flaw name
flaw_text (flaw.Stray file) = stray_text (string_bytes file)
flaw_text (flaw.Subject subject) = subject_text subject
flaw_text flaw.Short = codes "give at least 16 digits of the digest"
flaw_text flaw.Digest = codes "no digest of changes.csv begins with these digits"

-- ---- Where it comes from

-- why bytes are no history
abbrev pub unreadable_as : Unreadable → Unverified
unreadable_as unreadable.Memory = un.Memory
unreadable_as unreadable.Header = un.Flawed flaw.Header
unreadable_as (unreadable.Wrong number) = un.Flawed (flaw.Record number)

-- why a file was not read
abbrev pub unread_as : UnreadFile → Unverified
unread_as unread.Memory = un.Memory
unread_as unread.Read = un.Read
unread_as unread.Large = un.Large
