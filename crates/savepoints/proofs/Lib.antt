mod BehindLaws
