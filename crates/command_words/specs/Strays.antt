-- Words that stand in no plan, though `clap` may take them, and how it is given the flags.
use Rattle.std.specs.Prelude.{◌==◌, ◌&&◌, ◌||◌, ◌++◌, not, Bool, false, true, [], ◌∷◌, codes, eqb, if◌then◌else◌}
use Rattle.std.specs.List.{list_any, starts_with}
use Rattle.std.specs.Str.{bytes_eq}
use Rattle.command_words.specs.Items.{Text, flags}

abbrev after_hyphen : Text → Bool
after_hyphen [] = true
after_hyphen (byte ∷ []) = true
after_hyphen (byte ∷ next ∷ rest) = not (byte == 45)

-- The word begins with one hyphen and no second, or is two hyphens and no more.
abbrev pub is_stray : Text → Bool
is_stray [] = false
is_stray (byte ∷ rest) = byte == 45 && after_hyphen rest

-- The word gives a flag a value, though it may be an empty one.
abbrev pub gives_value : Text → Bool
gives_value word = list_any (λ flag. starts_with eqb word (codes "--" ++ flag ++ codes "=")) flags

-- The word stands in no plan for one of these causes.
abbrev pub is_refused : Text → Bool
is_refused word = is_stray word || gives_value word

-- The word is a flag.
abbrev pub is_flag_word : Text → Bool
is_flag_word word = list_any (λ flag. bytes_eq word (codes "--" ++ flag)) flags

-- The word as `clap` is given it: a flag stands there with an empty value, as any other option with its value.
abbrev pub told_word : Text → Text
told_word word = if is_flag_word word then word ++ codes "=" else word
