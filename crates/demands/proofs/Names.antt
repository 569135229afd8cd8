-- Where a name is wrong: the laws of the rules, and the places that are computed.
use mathlib.Core.Path.{refl}
use Rattle.rules.specs.Bytes.{all_are}
use Rattle.rules.specs.Name.{name_byte, wrong_from, wrong_place}
use Rattle.rules.proofs.Name.{name_is, is_name}
use Rattle.rules.proofs.Misnamed.{place_wrong, wrong_place_lem, wrong_one, rule_none, none_rule}
use Rattle.demands.specs.Names.{WrongPlaces, Places}

pub wrong_places : WrongPlaces
wrong_places =
    record {
      says = place_wrong;
      given = wrong_place_lem;
      one = wrong_one;
      kept = λ name is. rule_none name (is_name name is);
      none = λ name e. name_is name (none_rule name e);
    }

pub places : Places
unfolding all_are name_byte wrong_from wrong_place
places = record { leading = refl; dotted_late = refl; dotted = refl; parted = refl; blank = refl; empty = refl; long = refl }
