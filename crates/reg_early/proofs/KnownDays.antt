-- Days that other calendars give, so that a wrong rule in the specs does not check.
use Rattle.std.proofs.Common.{◌≡◌, true, false, [], ◌∷◌, map, refl}
use Rattle.reg_early.specs.Calendar.{civil_date, is_leap_year, leap_years_before, start_of_year, start_of_month, day_number, date_of, year_of, month_of, date_a_year_after, year_after}

leap_years : map is_leap_year (2000 ∷ 2023 ∷ 2024 ∷ 2100 ∷ 2400 ∷ 9996 ∷ []) ≡ true ∷ false ∷ true
    ∷ false ∷ true ∷ true ∷ []
unfolding is_leap_year
leap_years = refl

-- 1970-01-01, 2000-01-01, 2023-11-14, 2024-02-29 and 9999-12-31
known_numbers : map day_number
    (civil_date 1970 1 1 ∷ civil_date 2000 1 1 ∷ civil_date 2023 11 14 ∷ civil_date 2024 2 29
    ∷ civil_date 9999 12 31 ∷ []) ≡ 0 ∷ 10957 ∷ 19675 ∷ 19782 ∷ 2932896 ∷ []
unfolding day_number start_of_month start_of_year leap_years_before is_leap_year
known_numbers = refl

known_dates : map date_of (10957 ∷ 19675 ∷ 19782 ∷ 19783 ∷ 2932896 ∷ []) ≡ civil_date 2000 1 1
    ∷ civil_date 2023 11 14 ∷ civil_date 2024 2 29 ∷ civil_date 2024 3 1 ∷ civil_date 9999 12 31
    ∷ []
unfolding date_of year_of month_of start_of_month start_of_year leap_years_before is_leap_year
known_dates = refl

-- a year after 2023-02-28, 2024-02-29 and 9999-03-01
known_years_after : map year_after (19416 ∷ 19782 ∷ day_number (civil_date 9999 3 1) ∷ []) ≡ 19781
    ∷ 20147 ∷ 2932896 ∷ []
unfolding year_after date_a_year_after date_of year_of month_of day_number start_of_month
    start_of_year leap_years_before is_leap_year
known_years_after = refl
