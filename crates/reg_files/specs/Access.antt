-- Who may read an office's files.
use Rattle.std.specs.Prelude.{◌++◌, ℕ, List, codes}

-- the line that warns of a file at a path that others may read
abbrev pub reader_warning : List ℕ → List ℕ
reader_warning path =
    codes "warning: others may read " ++ (path ++ codes ": chmod 600 it, and its -wal\n")

-- the line that warns that others may read the log of the file at a path
abbrev pub log_reader_warning : List ℕ → List ℕ
log_reader_warning path =
    codes "warning: others may read " ++ (path ++ codes "-wal: chmod 600 it\n")
