mod FirstStart
