use Rattle.std.proofs.Common.{◌≡◌, sym, ◌∙◌, rules, tests}
use Rattle.std.specs.List.{list_any}
use Rattle.std.specs.String.{string_bytes}
use Rattle.std.proofs.lemmas.Iterator.{YieldsList-from_slice}
use Rattle.std.proofs.lemmas.Iterator.Search.{any_from_yields_List}
use Rattle.std.proofs.lemmas.List.Folds.{Any-from_list_any, list_any-from_Any}
use Rattle.command_words.specs.Strays.{is_refused}
use Rattle.command_words.proofs.told.has_refused.Goals as goal

pub returns : goal.returns
returns c =
    let words = c.args.words.now in
    let same : c.any.result ≡ list_any (λ word. is_refused (string_bytes word)) words =
    any_from_yields_List (λ word. is_refused (string_bytes word)) _ _ _ c.any.ensures.ran (YieldsList-from_slice words cc) (λ x q r k. search (rules, tests)) in
    record {
      refused = (λ is. Any-from_list_any (λ word. is_refused (string_bytes word)) words (sym same ∙ is), λ any. same ∙ list_any-from_Any (λ word. is_refused (string_bytes word)) words any);
    }
