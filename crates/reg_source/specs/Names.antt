-- The names of a file that is to take a place.
use Rattle.std.specs.Prelude.{string_bytes}
use Rattle.reg_source.specs.Disk.{FileNames}
use Rattle.reg_source.specs.declared.replacement.Names.{Names}

-- their texts
abbrev pub names_by : Names → FileNames
names_by names = record {
  place = string_bytes names.place;
  beside = string_bytes names.beside;
  folder = string_bytes names.folder;
}
