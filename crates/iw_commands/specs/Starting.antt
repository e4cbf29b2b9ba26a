-- The command line of the listening process.
use Rattle.std.specs.Prelude.{ℕ, Bool, List, [], ◌∷◌, ◌++◌, codes, if◌then◌else◌}
use Rattle.std.specs.Fmt.{decimal}
use Rattle.iw_commands.specs.declared.asking.Request.{Request}

-- a word, if it is wanted
abbrev pub flag : Bool → List ℕ → List (List ℕ)
flag is_wanted word = if is_wanted then word ∷ [] else []

-- `listen` at any free port, for as many connections and with the same options
abbrev pub listener_words : Request → List (List ℕ)
listener_words request =
    (codes "listen" ∷ codes "--port" ∷ codes "0" ∷ codes "--count" ∷ decimal request.count ∷ [])
    ++ flag request.options.markers (codes "--markers") ++ flag request.options.crc (codes "--crc")
    ++ flag request.options.enhanced (codes "--enhanced")
