-- A command line in the terms of the crate `clap`: its command, its words, and a word that names a file.
use Rattle.std.specs.Prelude.{Bool, true, List, Option, Some, None, bytes_eq, codes, if◌then◌else◌, map, String, string_bytes}
use Rattle.std.specs.Global.{Global}
use Rattle.clap.specs.Words.{App, Text, new_app}
use Rattle.clap.specs.Simple.{on_top}

-- A command with this name and without arguments, whose words begin after the program's name. `--help`, `-h`,
-- `--version` and `-V` are added by `clap`. This project's own rule.
abbrev pub plain_app : Text → App
plain_app name = on_top (λ s. record s { no_binary_name = true; has_version = true }) (new_app name)

-- the words of a command line, each as its bytes
abbrev pub texts_of : List (String Global) → List Text
texts_of = map string_bytes

-- whether a word for a file means standard input. `-` does, and `./-` is the file with that name.
abbrev pub is_standard : Text → Bool
is_standard word = bytes_eq word (codes "-")

-- the path of the file that a word means, or none for standard input
abbrev pub path_by : Option Text → Option Text
path_by None = None
path_by (Some word) = if is_standard word then None else Some word
