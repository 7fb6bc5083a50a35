use Rattle.pbm_reader.proofs.Judged.{judged}
use Rattle.pbm_reader.proofs.OneFault.{one_fault, page_has_no_fault}
use Rattle.pbm_reader.proofs.OnePage.{one_page}
use Rattle.pbm_reader.proofs.ImageFaults.{one_list, one_pages_fault, never_both}
use Rattle.pbm_reader.proofs.ImagesJudged.{pages_judged, one_page_list}
use Rattle.pbm_reader.proofs.law.each_input_is_judged.Goals as goal

pub returns : goal.returns
returns c = record {
  page_or_fault = λ input. judged input;
  one_page = λ input p q s t. one_page input p q s t;
  one_fault = λ input f g x y. one_fault input f g x y;
  never_both = λ input page fault p f. page_has_no_fault input page fault p f;
  pages_or_fault = λ input. pages_judged input;
  one_list = λ input ps qs s t. one_list input ps qs s t;
  one_pages_fault = λ input f g x y. one_pages_fault input f g x y;
  never_pages_and_fault = λ input pages fault p f. never_both input pages fault p f;
  page_is_list = λ input page s. one_page_list input page s;
}
