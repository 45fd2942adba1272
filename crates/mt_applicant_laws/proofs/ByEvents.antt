-- The best match of a small market, computed: the match in which events end that leave none due.
use Rattle.std.proofs.Common.{List, IsTrue}
use Rattle.mt_terms.specs.Market.{Market}
use Rattle.mt_terms.specs.Best.{IsBest}
use Rattle.mt_terms.specs.WellFormed.{IsWellFormed, is_well_formed}
use Rattle.mt_terms.specs.Floor.{Floor, opening, after_all, is_quiet, result_of}
use Rattle.mt_terms.specs.declared.events.Event.{Event}
use Rattle.mt_stability_laws.proofs.WellFormedLemmas.{well_formed_from_test}
use Rattle.mt_floor_laws.proofs.FloorEvents.{events_keep_strict_lem}
use Rattle.mt_floor_laws.proofs.FloorRuns.{opening_is_strict_lem, result_of_is_result}
use Rattle.mt_floor_laws.proofs.FloorBest.{strict_best_lem}

pub best_by_events : (m : Market) (es : List Event) → IsTrue (is_well_formed m) → IsTrue (is_quiet m (after_all m opening es))
    → IsBest m (result_of m (after_all m opening es))
best_by_events m es tested quiet =
    let w : IsWellFormed m = well_formed_from_test m tested in
    let f : Floor = after_all m opening es in
    strict_best_lem m w f (events_keep_strict_lem m w opening es (opening_is_strict_lem m)) quiet (result_of m f) (result_of_is_result m f)
