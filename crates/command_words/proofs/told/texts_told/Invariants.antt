use Rattle.std.specs.Prelude.{◌≡◌, map, take, string_bytes}
use Rattle.command_words.specs.Givens.{texts_of}
use Rattle.command_words.specs.Strays.{told_word}
use Rattle.command_words.proofs.told.texts_told.Given as goal

abbrev pub invariant-loop-word : goal.invariant-loop-word
invariant-loop-word l = texts_of l.texts.items ≡ map told_word (map string_bytes (take l.word-index l.words))
