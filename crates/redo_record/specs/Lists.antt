-- Lists by what stands in them.
use Rattle.std.specs.Prelude.{Bool, not, if◌then◌else◌, List, map, filter}

-- every item that passes is replaced
abbrev pub change_where : {A : Type 0} → (A → Bool) → (A → A) → List A → List A
change_where p f xs = map (λ x. if p x then f x else x) xs

-- the items that do not pass
abbrev pub drop_where : {A : Type 0} → (A → Bool) → List A → List A
drop_where p xs = filter (λ x. not (p x)) xs
