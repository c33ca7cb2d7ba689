mod RunningLaws
