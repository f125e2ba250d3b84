-- The states of the reader of filters that the values of its code stand for.
use Rattle.std.specs.Prelude.{ℕ, drop}
use Rattle.wh_order_inference.specs.Said.{written_filter}
use Rattle.wh_order_text.specs.FilterMachine as m
use Rattle.wh_order_text.specs.declared.filter_reader.FilterWord.{FilterWord}
use Rattle.wh_order_text.specs.declared.filter_reader.FilterWord.TheVariants as first
use Rattle.wh_order_text.specs.declared.filter_reader.FilterPlace.{FilterPlace}
use Rattle.wh_order_text.specs.declared.filter_reader.FilterPlace.TheVariants.{Wanted, Word, PrecWanted, Prec, PlaceWanted, Place, PickWanted, Pick}
use Rattle.wh_order_text.specs.declared.filter_reader.FilterText.{FilterText}
use Rattle.wh_order_text.specs.declared.filter_reader.FilterStep.{FilterStep}
use Rattle.wh_order_text.specs.declared.filter_reader.FilterStep.TheVariants.{On, Ended, Wrong}

abbrev pub word_of : FilterWord → m.Word
word_of first.Keep = m.keep_word
word_of first.Pick = m.pick_word

abbrev pub place_of : FilterPlace → FilterText → m.Place
place_of Wanted t = m.wanted
place_of (Word w at) t = m.word (drop at (m.spelling (word_of w))) (word_of w)
place_of PrecWanted t = m.prec_wanted
place_of (Prec n) t = m.prec n
place_of PlaceWanted t = m.place_wanted t.prec t.places
place_of (Place n) t = m.place t.prec t.places n
place_of PickWanted t = m.pick_wanted
place_of (Pick n) t = m.picked n

abbrev pub filter_place : FilterText → m.Place
filter_place t = place_of t.place t

-- a step at this byte that left the text so
abbrev pub went : FilterText → ℕ → FilterStep → m.Step
went t b On = m.goes (filter_place t)
went t b (Ended f) = m.ended (written_filter f) b
went t b Wrong = m.nowhere
